-- `parsing::parse` meets its contract: a text too long or with no border's name stands for no request, and the lists decide of another.
use mathlib.Core.Path.{◌≡◌}
use native.Mathlib.Omega.{arith}
use Rattle.std.proofs.Common.{None}
use Rattle.std.proofs.lemmas.Result.{err_from_is_err_and}
use Rattle.parsing.specs.declared.ParseError.TheVariants.{Unreadable}
use Rattle.parsing.specs.Parsing.{no_mode}
use Rattle.parsing.proofs.parse.Goals as goal

pub returns-in_err-mode : goal.returns-in_err-mode
returns-in_err-mode c =
    let none : c.read_mode.result ≡ None = grind arith in
    let p = err_from_is_err_and c.from_residual.result c.from_residual.ensures.1 in
    let e : c.in_err-mode.field-0.0 ≡ Unreadable = grind arith in
    rw (p.1, p.2, e) (no_mode c.read_mode.ensures none)
