-- `plane_synthesis::work::join_plane` meets its contract: the columns of either half, their crossing, and the rows read there are the plane, and none of them reaches beyond the need.
use borrow.Rule.Slice.PartMut.{put_mid, same_len_mid}
use Prim.Native.Nat.{◌+◌, ◌-◌, ◌*◌}
use native.Mathlib.Omega.{arith}
use mathlib.Core.Path.{◌≡◌, refl, ap, ◌∙◌}
use mathlib.Core.List.{List, ◌++◌}
use lib.ListN.{length, drop}
use lib.Seq.{length_front}
use lib.Ieee.{Float, binary64}
use Rattle.plane_synthesis.specs.Tested.{joined}
use Rattle.plane_synthesis.proofs.work.join_plane.Goals as goal

pub returns : goal.returns
returns c = let a = c.args in
    let half = c.dwt_length-m.result * a.height in
    let x = c.columns.new.out ++ drop half a.scratch.now in
    -- after the columns of either half the scratch is as long as it was
    let long : length (put_mid half (half + half - half) x c.columns-2.new.out) ≡ length a.scratch.now =
    same_len_mid half (half + half - half) x c.columns-2.new.out c.columns-2.auto.out ∙ length_front a.scratch.now c.columns.new.out half c.columns.auto.out in
    joined c.requires.1 c.dwt_length-m.result c.dwt_length-m.ensures binary64 a.low.now a.high.now a.ll.now a.lh.now a.hl.now a.hh.now a.scratch.now
    x _ c.columns-2.new.out c.cross.new.s
    refl (ap (λ (l : List Float). l ++ drop half a.scratch.now) c.columns.ensures) c.columns-2.ensures refl long c.cross.ensures c.cross.auto.s
    (half + half + (half + half) - (half + half)) (omega arith) c.rows.ensures
