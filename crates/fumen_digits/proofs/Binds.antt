-- Steps of reading, one after the other.
use Rattle.std.proofs.Common.{◌≡◌, Result, Ok, Err, ap, ◌⊎◌, rules}
use Rattle.fumen_digits.specs.declared.fault.FumenFault.{FumenFault}
use Rattle.fumen_digits.specs.Reading.{◌>>=◌}

-- a step that didn't fail, and what followed it
pub bind_ok : {A B : Type 0} (r : Result A FumenFault) (f : A → Result B FumenFault) (y : B) → (r >>= f) ≡ Ok y → (x : A) × (r ≡ Ok x) × (f x ≡ Ok y)
bind_ok r f y e = search rules

-- a fault is that of the step, or of what followed it
pub bind_err : {A B : Type 0} (r : Result A FumenFault) (f : A → Result B FumenFault) (d : FumenFault) → (r >>= f) ≡ Err d → (r ≡ Err d) ⊎ ((x : A) × (r ≡ Ok x) × (f x ≡ Err d))
bind_err r f d e = search rules

pub ok_bind : {A B : Type 0} (r : Result A FumenFault) (f : A → Result B FumenFault) (x : A) → r ≡ Ok x → (r >>= f) ≡ f x
ok_bind r f x e = ap (λ q. q >>= f) e

pub err_bind : {A B : Type 0} (r : Result A FumenFault) (f : A → Result B FumenFault) (d : FumenFault) → r ≡ Err d → (r >>= f) ≡ Err d
err_bind r f d e = ap (λ q. q >>= f) e
