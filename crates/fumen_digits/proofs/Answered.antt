-- What a reader answered, from what reading gives, and the other way round.
use Rattle.std.proofs.Common.{◌≡◌, Result, Ok, Err, subst, rules}
use Rattle.std.specs.Prelude.{IfOk}
use Rattle.pc_outside.specs.declared.answers.Refused.{Refused}
use Rattle.pc_outside.specs.declared.answers.Refused.TheVariants as refused
use Rattle.fumen_digits.specs.declared.number.DigitFault.{DigitFault}
use Rattle.fumen_digits.specs.declared.fault.FumenFault.{FumenFault}
use Rattle.fumen_digits.specs.Fault.{digit_fault}
use Rattle.fumen_digits.specs.ReadResults.{Reads, Gives}

pub reads_ok : {X Y E : Type 0} (view : X → Y) (fault : E → FumenFault) (r : Result X E) (read : Result Y FumenFault) (x : X) → Reads view fault r read → r ≡ Ok x → read ≡ Ok (view x)
reads_ok {X = X} {E = E} view fault r read x reads e = let P : Result X E → Type 0 = λ q. Reads view fault q read in subst P e reads

pub reads_err : {X Y E : Type 0} (view : X → Y) (fault : E → FumenFault) (r : Result X E) (read : Result Y FumenFault) (d : E) → Reads view fault r read → r ≡ Err d → read ≡ Err (fault d)
reads_err {X = X} {E = E} view fault r read d reads e = let P : Result X E → Type 0 = λ q. Reads view fault q read in subst P e reads

pub ok_from_read : {X Y E : Type 0} (view : X → Y) (fault : E → FumenFault) (r : Result X E) (read : Result Y FumenFault) (y : Y) → Reads view fault r read → read ≡ Ok y → (x : X) × (r ≡ Ok x) × (view x ≡ y)
ok_from_read view fault r read y reads e = search rules

pub err_from_read : {X Y E : Type 0} (view : X → Y) (fault : E → FumenFault) (r : Result X E) (read : Result Y FumenFault) (f : FumenFault) → Reads view fault r read → read ≡ Err f → (d : E) × (r ≡ Err d) × (fault d ≡ f)
err_from_read view fault r read f reads e = search rules

-- two faults of a digit are one where they are seen as one
pub same_digit_fault : (a b : DigitFault) → digit_fault a ≡ digit_fault b → a ≡ b
same_digit_fault a b e = search rules

-- ---- a reader that takes memory

pub gives_found : {X Y E : Type 0} (view : X → Y) (fault : E → FumenFault) (P : Y → Type 0) (r : Result X (Refused E)) (read : Result Y FumenFault) → ((y : Y) → read ≡ Ok y → P y) → Gives view fault r read → IfOk r (λ x. P (view x))
gives_found view fault P r read means gives = search rules

pub gives_fault : {X Y E : Type 0} (view : X → Y) (fault : E → FumenFault) (r : Result X (Refused E)) (read : Result Y FumenFault) (d : E) → Gives view fault r read → r ≡ Err (refused.Fault d) → read ≡ Err (fault d)
gives_fault {X = X} {E = E} view fault r read d gives e = search rules

pub gives_same : {X Y E : Type 0} (view : X → Y) (fault : E → FumenFault) (r : Result X (Refused E)) (read other : Result Y FumenFault) → read ≡ other → Gives view fault r read → Gives view fault r other
gives_same view fault r read other same gives = subst (λ q. Gives view fault r q) same gives

-- the error of a step is that of the whole
pub err_passed : {T U E : Type 0} {r : Result T E} {y z w : E} → r ≡ Err y → y ≡ z → r ≡ Err w → ◌≡◌ {A = Result U E} (Err z) (Err w)
err_passed here same there = cc
