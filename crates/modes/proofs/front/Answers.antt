-- `modes::front` meets its contract: the library's test is the definition's.
use mathlib.Core.Bool.{Bool}
use mathlib.Core.Path.{◌∙◌, ap}
use Rattle.std.specs.Bool.{then_some}
use Rattle.std.proofs.Common.{length}
use Rattle.modes.specs.Fronts.{begins_with}
use Rattle.modes.proofs.front.Goals as goal

pub returns : goal.returns
returns c = c.then_some.ensures ∙ ap (λ (b : Bool). then_some b (length c.args.name.now)) (c.starts_with.ensures.value ∙ begins_with c.args.name.now c.args.text.now)
