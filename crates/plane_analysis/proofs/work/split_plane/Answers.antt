-- `plane_analysis::work::split_plane` meets its contract: rows, their crossing, and the columns of either half of it are the four bands, and none of them reaches beyond the need.
use mathlib.Core.Path.{refl}
use lib.Ieee.{binary64}
use Rattle.plane_analysis.specs.Tested.{split}
use Rattle.plane_analysis.proofs.work.split_plane.Goals as goal
use Rattle.plane_analysis.proofs.work.split_plane.Goals.{After-dwt_length-m}

pub returns : goal.returns
returns c = let a = c.args in
    split c.requires.1 c.dwt_length-m.result c.dwt_length-m.ensures binary64 a.low.now a.high.now a.border a.plane.now a.scratch.now c.rows.new.scratch c.cross.new.s c.columns.new.scratch c.columns-2.new.scratch
    c.columns.new.lo c.columns.new.hi c.columns-2.new.lo c.columns-2.new.hi
    refl refl c.rows.ensures c.cross.ensures c.cross.auto.s c.columns.ensures.2 c.columns-2.ensures.2
    c.columns.ensures.0 c.columns.ensures.1 c.columns-2.ensures.0 c.columns-2.ensures.1
