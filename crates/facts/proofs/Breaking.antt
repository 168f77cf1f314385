-- Fact 3: one changed place breaks a check. Any block size, any table; that there is such a check asks that no line is
-- empty.
--
--   check_changed        a check after the change is the check before it and the matrix's number there, added mod 2
--   change_breaks_own    the checks that break are those that the place is in
--   change_breaks        so one check breaks at least
use mathlib.Core.Path.{◌≡◌, refl, ap, ◌∙◌}
use mathlib.Core.Bool.{Bool, true, false, cond}
use Prim.Native.Nat.{ℕ, ◌+◌, ◌%◌, ◌<◌}
use native.Mathlib.Omega.{arith}
use lib.Dec.{T, eqb}
use Rattle.rules.specs.Bits.{zeros, only, sum}
use Rattle.rules.specs.Matrix.{Code, places, one, check}
use Rattle.rules.proofs.Checks.{one_below, check_below, check_same, check_zeros, check_sum, check_only}
use Rattle.facts.specs.Claims.{changed, ChangeBreaksOwn, ChangeBreaks}
use Rattle.facts.specs.Lines.{none_empty}
use Rattle.facts.proofs.Places.{place_in}

-- mod 2, a change is the sum with a 1 at that place alone
as_sum : (e : Bool) (b : ℕ) → (cond e ((b + 1) % 2) b + 0) % 2 ≡ (b + cond e 1 0) % 2
as_sum true b = omega arith
as_sum false b = refl

pub check_changed : (c : Code) (n p : ℕ) (w : ℕ → ℕ) → p < places c
    → check c n (changed p w) ≡ (check c n w + one c n p) % 2
check_changed c n p w h =
    omega (arith, check_sum c n (changed p w) zeros, check_zeros c n, check_below c n (changed p w))
    ∙ check_same c n (sum (changed p w) zeros) (sum w (only p)) (λ q l. as_sum (eqb q p) (w q))
    ∙ check_sum c n w (only p)
    ∙ ap (λ (b : ℕ). (check c n w + b) % 2) (check_only c n p h)

pub change_breaks_own : (c : Code) → ChangeBreaksOwn c
change_breaks_own c p w h hold n l = omega (arith, check_changed c n p w h, hold n l, one_below c n p)

pub change_breaks : (c : Code) → T (none_empty c) → ChangeBreaks c
change_breaks c u p w h hold =
    let n = place_in c u p h in
    (n.0, n.1, change_breaks_own c p w h hold n.0 n.1 ∙ n.2)
