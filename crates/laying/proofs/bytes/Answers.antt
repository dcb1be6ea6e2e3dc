-- `laying::bytes` meets its contract: as far as either reaches is copied.
use mathlib.Core.Path.{refl}
use Rattle.laying.specs.Behind.{laid_front}
use Rattle.laying.proofs.bytes.Goals as goal

pub returns : goal.returns
returns c = record { size = refl; laying = laid_front c.args.text.now c.args.out.now c.min-n.result c.min-n.ensures c.copy_from_slice.ensures.after }
