-- `printing::work::bands` meets its contract: the details are laid behind the approximations.
use mathlib.Core.List.{[], ◌∷◌, ◌++◌}
use native.Mathlib.Omega.{arith}
use Rattle.texts.specs.Texts.{space}
use Rattle.texts.specs.Prints.{approx_word, detail_word}
use Rattle.laying.specs.Behind.{behind}
use Rattle.printing.specs.Sizes.{length-band}
use Rattle.printing.proofs.work.bands.Goals as goal

pub overflow_add-result : goal.overflow_add-result
overflow_add-result c = omega (arith, c.band-n.ensures.size, c.band.ensures.size, length-band (approx_word ++ (space ∷ [])) c.args.approx.now, length-band (detail_word ++ (space ∷ [])) c.args.detail.now, c.requires)

pub returns : goal.returns
returns c = behind c.band-n.ensures c.min-k.ensures c.band.ensures
