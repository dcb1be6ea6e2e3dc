-- `dividing::bad_divisor` meets its contract: what is not above 0 or is above 2^53 is bad, and of any other float its whole part tells.
use Rattle.std.proofs.Common.{ℕ, pos, not, ap, sym, ◌∙◌}
use lib.Ieee.{Float, binary64, of_bits, of_int, ne}
use Rattle.dividing.specs.Divisors.{bad_low, bad_high, cut_differs, cut_asks}
use Rattle.dividing.proofs.bad_divisor.Goals as goal
use Rattle.dividing.proofs.bad_divisor.Goals.{then-s, else-s, then-s-2, else-s-2}

pub truncating_f64_to_u64-requires : goal.truncating_f64_to_u64-requires
unfolding of_bits
truncating_f64_to_u64-requires c =
    elim c.if-s.branch [
      | then-s w ↦ let p = cut_asks binary64 c.args.s w.if-s.true (sym w.value-is ∙ c.if-s-2.true) in record { lower_bound = p.0; upper_bound = p.1 }
      | else-s w ↦ cc
    ]

pub returns : goal.returns
unfolding of_bits ne
returns c = let s = c.args.s in
    elim c.if-s-2.branch [
      | then-s-2 w ↦ elim c.if-s.branch [
        | then-s v ↦ ap not w.result-is ∙ ap (λ (x : Float). ne x s) (w.nearest_u64_to_f64.ensures ∙ ap (λ (n : ℕ). of_int binary64 (pos n)) w.truncating_f64_to_u64.ensures)
            ∙ cut_differs binary64 s v.if-s.true (sym v.value-is ∙ w.if-s-2.true)
        | else-s v ↦ cc
      ]
      | else-s-2 w ↦ elim c.if-s.branch [
        | then-s v ↦ ap not (w.result-is ∙ w.if-s-2.false) ∙ bad_high binary64 s v.if-s.true (sym v.value-is ∙ w.if-s-2.false)
        | else-s v ↦ ap not (w.result-is ∙ w.if-s-2.false) ∙ bad_low binary64 s v.if-s.false
      ]
    ]
