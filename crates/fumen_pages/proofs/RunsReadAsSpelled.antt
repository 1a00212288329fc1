-- Runs one after the other: what they spell, what is read, and the first fault among them.
use Rattle.std.proofs.Common.{◌≡◌, ℕ, zero, suc, ◌+◌, ◌-◌, ◌*◌, ◌/◌, ◌%◌, ◌<◌, ◌≤◌, true, false, leb, List, [], ◌∷◌, ◌++◌, length, get_or, take, drop, Result, Ok, Err, refl, sym, ap, subst, ◌∙◌, ◌⊎◌, inl, inr, append_assoc, arith, rules}
use Rattle.std.specs.List.{list_all, flat_map, AllByRecursion}
use Rattle.std.proofs.Math.Nat.{mul-le-mul_right, mod-lt}
use Rattle.std.proofs.lemmas.Bool.{and_parts, leb-true, ltb-true, ltb-false, lt-ltb, le-ltb}
use Rattle.std.proofs.lemmas.List.{length-take-le, length-drop, length-append, take_at, drop_at, take-append-drop, nil_from_length}
use Rattle.std.proofs.lemmas.Nat.{div-add-mod', mod-mul-add, div-mul-add}
use Rattle.srs.proofs.CallerLemmas.{list_all_each}
use Rattle.fumen_digits.specs.Number.{Stands, NumberStands}
use Rattle.fumen_digits.specs.declared.fault.FumenFault.{FumenFault}
use Rattle.fumen_digits.specs.declared.fault.FumenFault.TheVariants.{RunPastEnd, BadCell}
use Rattle.fumen_digits.specs.Reading.{◌>>=◌, number_at}
use Rattle.fumen_digits.proofs.CallerLemmas.{bind_ok, bind_err, ok_bind, err_bind, length-digits, Stands-nil, Stands-then, Stands-parts, stands_from_read, read_from_stands, number_fault_from_read, read_from_number_fault}
use Rattle.fumen_pages.specs.Record.{Run, IsCellRun, moved_by, stays_colour, run_digits, CutsInto}
use Rattle.fumen_pages.specs.Reading.{checked_run, run_at, runs_at}
use Rattle.fumen_pages.specs.Faults.{RunStands, IsRunDue, IsRunFault, IsRunsFault}

-- ---- one run

-- a run stands at a place, and fits the cells that are left
pub record RunFits (n : ℕ) (ds : List ℕ) (place : ℕ) (left : List ℕ) (count shift : ℕ) : Type 0 where
  pub stands : RunStands n ds place count shift
  pub fits : count ≤ length left
  pub colours : list_all (stays_colour shift) (take count left) ≡ true

-- the number of a run, from its parts, and the other way round
run_stands : (n : ℕ) (ds : List ℕ) (place number : ℕ) → 0 < n → NumberStands ds place 2 number → RunStands n ds place (number % n + 1) (number / n)
run_stands n ds place number some stands = search (rules, div-add-mod', mod-lt)

abbrev run_number : ℕ → ℕ → ℕ → ℕ
run_number n count shift = shift * n + (count - 1)

count_of : (n : ℕ) (ds : List ℕ) (place count shift : ℕ) → RunStands n ds place count shift → run_number n count shift % n + 1 ≡ count
count_of n ds place count shift s = search (rules, mod-mul-add)

shift_of : (n : ℕ) (ds : List ℕ) (place count shift : ℕ) → RunStands n ds place count shift → run_number n count shift / n ≡ shift
shift_of n ds place count shift s = search (rules, div-mul-add)

checked_ok : (place : ℕ) (left : List ℕ) (count shift : ℕ) (run : ℕ × ℕ) → checked_run place left count shift ≡ Ok run → (count ≤ length left) × (list_all (stays_colour shift) (take count left) ≡ true) × (◌≡◌ {A = ℕ × ℕ} run (count, shift))
checked_ok place left count shift run e = search (rules, ltb-false)

-- why a run is refused
abbrev RunRefused : ℕ → List ℕ → ℕ → ℕ → FumenFault → Type 0
RunRefused place left count shift f =
    ((length left < count) × (f ≡ RunPastEnd place)) ⊎ ((count ≤ length left) × (list_all (stays_colour shift) (take count left) ≡ false) × (f ≡ BadCell place))

checked_err : (place : ℕ) (left : List ℕ) (count shift : ℕ) (f : FumenFault) → checked_run place left count shift ≡ Err f → RunRefused place left count shift f
checked_err place left count shift f e = search (rules, ltb-true, ltb-false)

checked_fits : (place : ℕ) (left : List ℕ) (count shift : ℕ) → count ≤ length left → list_all (stays_colour shift) (take count left) ≡ true → checked_run place left count shift ≡ Ok (count, shift)
checked_fits place left count shift fits good = search (rules, le-ltb)

checked_long : (place : ℕ) (left : List ℕ) (count shift : ℕ) → length left < count → checked_run place left count shift ≡ Err (RunPastEnd place)
checked_long place left count shift long = search (rules, lt-ltb)

checked_bad : (place : ℕ) (left : List ℕ) (count shift : ℕ) → count ≤ length left → list_all (stays_colour shift) (take count left) ≡ false → checked_run place left count shift ≡ Err (BadCell place)
checked_bad place left count shift fits bad = search (rules, le-ltb)

abbrev checked_number : ℕ → ℕ → List ℕ → ℕ → Result (ℕ × ℕ) FumenFault
checked_number n place left number = checked_run place left (number % n + 1) (number / n)

-- what stands is read as a run that is then checked
read_run : (n : ℕ) (ds : List ℕ) (place : ℕ) (left : List ℕ) (count shift : ℕ) → RunStands n ds place count shift → run_at n ds place left ≡ checked_run place left count shift
unfolding run_at
read_run n ds place left count shift s = search (rules, ok_bind, read_from_stands, count_of, shift_of)

pub run_from_read : (n : ℕ) (ds : List ℕ) (place : ℕ) (left : List ℕ) (run : ℕ × ℕ) → 0 < n → place ≤ length ds → run_at n ds place left ≡ Ok run → RunFits n ds place left run.0 run.1
unfolding run_at
run_from_read n ds place left run some le e =
    let x = bind_ok (number_at ds place 2) (λ number. checked_number n place left number) run e in
    let number = stands_from_read ds place place 2 x.0 le x.1 in
    let c = checked_ok place left (x.0 % n + 1) (x.0 / n) run x.2 in
    subst (λ (r : ℕ × ℕ). RunFits n ds place left r.0 r.1) (sym c.2) (record { stands = run_stands n ds place x.0 some number; fits = c.0; colours = c.1 })

pub read_from_run : (n : ℕ) (ds : List ℕ) (place : ℕ) (left : List ℕ) (count shift : ℕ) → RunFits n ds place left count shift → run_at n ds place left ≡ Ok (count, shift)
read_from_run n ds place left count shift r = read_run n ds place left count shift r.stands ∙ checked_fits place left count shift r.fits r.colours

run_fault_from_read : (n : ℕ) (ds : List ℕ) (place : ℕ) (left : List ℕ) (f : FumenFault) → 0 < n → place ≤ length ds → run_at n ds place left ≡ Err f → IsRunFault n ds place left f
unfolding run_at
run_fault_from_read n ds place left f some le e = search (
  rules,
  (bind_err (number_at ds place 2) (λ number. checked_number n place left number) f e),
  (number_fault_from_read ds place 2 f le),
  (run_stands n ds place),
  (stands_from_read ds place place 2),
  (checked_err place left),
)

read_from_run_fault : (n : ℕ) (ds : List ℕ) (place : ℕ) (left : List ℕ) (f : FumenFault) → IsRunFault n ds place left f → run_at n ds place left ≡ Err f
unfolding run_at
read_from_run_fault n ds place left f (inl bad) = search (rules, err_bind, read_from_number_fault)
read_from_run_fault n ds place left f (inr (inl long)) =
    let r = long.0 in
    read_run n ds place left r.count r.shift r.stands ∙ (checked_long place left r.count r.shift r.long ∙ ap (λ (g : FumenFault). Err g) (sym long.1))
read_from_run_fault n ds place left f (inr (inr bad)) =
    let r = bad.0 in
    read_run n ds place left r.count r.shift r.stands ∙ (checked_bad place left r.count r.shift r.fits r.bad ∙ ap (λ (g : FumenFault). Err g) (sym bad.1))

-- ---- runs

abbrev pub old_cells : List Run → List ℕ
old_cells runs = flat_map (λ run. run.old) runs

abbrev pub new_cells : List Run → List ℕ
new_cells runs = flat_map (λ run. moved_by run.shift run.old) runs

-- runs stand at a place, up to end, and cut these cells
pub record RunsStand (n : ℕ) (ds : List ℕ) (place : ℕ) (old new : List ℕ) (end : ℕ) : Type 0 where
  pub runs : List Run
  pub text : List ℕ
  pub stands : Stands ds place text end
  pub cut : CutsInto n runs old new text

abbrev pub rest_of : ℕ → List ℕ → ℕ → ℕ → List ℕ → ℕ × ℕ → Result (List ℕ × ℕ) FumenFault
rest_of n ds place most left run = runs_at n ds (place + 2) most (drop run.0 left) >>= λ rest. Ok (moved_by run.1 (take run.0 left) ++ rest.0, rest.1)

pub runs_more : (n : ℕ) (ds : List ℕ) (place most : ℕ) (left : List ℕ) → 1 ≤ length left → runs_at n ds place (suc most) left ≡ (run_at n ds place left >>= λ run. rest_of n ds place most left run)
unfolding runs_at
runs_more n ds place most left some = search rules

pub runs_none : (n : ℕ) (ds : List ℕ) (place most : ℕ) (left : List ℕ) → length left ≡ 0 → runs_at n ds place most left ≡ Ok ([], place)
unfolding runs_at
runs_none n ds place most left none = search rules

-- the run of the first cells that are left
first_run : List ℕ → ℕ → ℕ → Run
first_run left count shift = record { old = take count left; shift = shift }

is_run : (n : ℕ) (ds : List ℕ) (place : ℕ) (left : List ℕ) (count shift : ℕ) → RunFits n ds place left count shift → IsCellRun n (first_run left count shift)
unfolding first_run
is_run n ds place left count shift r = search (rules, length-take-le)

run_text : (n : ℕ) (ds : List ℕ) (place : ℕ) (left : List ℕ) (count shift : ℕ) → RunFits n ds place left count shift → Stands ds place (run_digits n (first_run left count shift)) (place + 2)
unfolding first_run
run_text n ds place left count shift r = search (rules, length-take-le)

runs_cons : (n : ℕ) (ds : List ℕ) (place : ℕ) (left : List ℕ) (count shift : ℕ) (new : List ℕ) (end : ℕ) → RunFits n ds place left count shift → RunsStand n ds (place + 2) (drop count left) new end
    → RunsStand n ds place left (moved_by shift (take count left) ++ new) end
unfolding first_run
runs_cons n ds place left count shift new end r rest =
    let run = first_run left count shift in
    record {
      runs = run ∷ rest.runs;
      text = run_digits n run ++ rest.text;
      stands = Stands-then ds place (run_digits n run) (place + 2) rest.text end (run_text n ds place left count shift r) rest.stands;
      cut = record {
        each = (is_run n ds place left count shift r, rest.cut.each);
        from = sym (take-append-drop count left) ∙ ap (λ (xs : List ℕ). take count left ++ xs) rest.cut.from;
        to = ap (λ (xs : List ℕ). moved_by shift (take count left) ++ xs) rest.cut.to;
        spelled = ap (λ (xs : List ℕ). run_digits n run ++ xs) rest.cut.spelled;
      };
    }

no_runs : (n : ℕ) (ds : List ℕ) (place : ℕ) (left : List ℕ) → place ≤ length ds → length left ≡ 0 → RunsStand n ds place left [] place
no_runs n ds place left le none = search (rules, Stands-nil, nil_from_length)

done_runs : (x y : List ℕ × ℕ) → ◌≡◌ {A = Result (List ℕ × ℕ) FumenFault} (Ok x) (Ok y) → x ≡ y
done_runs x y e = cc

pub runs_from_read : (n : ℕ) (ds : List ℕ) (place most : ℕ) (left : List ℕ) (read : List ℕ × ℕ) → 0 < n → place ≤ length ds → length left ≤ most → runs_at n ds place most left ≡ Ok read → RunsStand n ds place left read.0 read.1
runs_from_read n ds place zero left read some le room e = search (rules, done_runs, runs_none, no_runs)
runs_from_read n ds place (suc most) [] read some le room e = search (rules, done_runs, runs_none, no_runs)
runs_from_read n ds place (suc most) (cell ∷ others) read some le room e =
    let left : List ℕ = cell ∷ others in
    let x = bind_ok (run_at n ds place left) (λ run. rest_of n ds place most left run) read (sym (runs_more n ds place most left (omega arith)) ∙ e) in
    let run = x.0 in
    let y = bind_ok (runs_at n ds (place + 2) most (drop run.0 left)) (λ rest. Ok (moved_by run.1 (take run.0 left) ++ rest.0, rest.1)) read x.2 in
    let r = run_from_read n ds place left run some le x.1 in
    let least = r.stands.some in
    let size = length-drop run.0 left in
    let fewer : length (drop run.0 left) ≤ most = omega arith in
    let rest = runs_from_read n ds (place + 2) most (drop run.0 left) y.0 some r.stands.stands.stands.within fewer y.1 in
    subst (λ (z : List ℕ × ℕ). RunsStand n ds place left z.0 z.1) (done_runs (moved_by run.1 (take run.0 left) ++ y.0.0, y.0.1) read y.2) (runs_cons n ds place left run.0 run.1 y.0.0 y.0.1 r rest)

-- a run that stands before others fits them
run_fits : (n : ℕ) (ds : List ℕ) (place : ℕ) (run : Run) (rest : List ℕ) (end : ℕ) → n ≤ 240 → IsCellRun n run → Stands ds place (run_digits n run) end → RunFits n ds place (run.old ++ rest) (length run.old) run.shift
run_fits n ds place run rest end small is stands =
    let count = length run.old in
    let some = is.some in
    let most = is.most in
    let front : take count (run.old ++ rest) ≡ run.old = take_at run.old rest count refl in
    let good : list_all (stays_colour run.shift) (take count (run.old ++ rest)) ≡ true = ap (λ (xs : List ℕ). list_all (stays_colour run.shift) xs) front ∙ is.colours in
    let parts = and_parts (leb 8 (get_or run.old 0 0 + run.shift)) (leb (get_or run.old 0 0 + run.shift) 16) (list_all_each (stays_colour run.shift) run.old 0 0 is.colours some) in
    let high = leb-true (get_or run.old 0 0 + run.shift) 16 parts.1 in
    let low : run.shift ≤ 16 = omega arith in
    let product : run.shift * n ≤ 16 * n = mul-le-mul_right n low in
    let len : place + length (run_digits n run) ≡ place + 2 = ap (λ (k : ℕ). place + k) (length-digits 2 (run.shift * n + (count - 1))) in
    record {
      stands = record { some = some; most = most; stands = record { below = omega arith; stands = subst (λ (k : ℕ). Stands ds place (run_digits n run) k) (stands.upto ∙ len) stands } };
      fits = omega (arith, length-append run.old rest);
      colours = good;
    }

pub read_from_runs : (n : ℕ) (ds : List ℕ) (runs : List Run) (place end most : ℕ) → n ≤ 240 → AllByRecursion (IsCellRun n) runs → length (old_cells runs) ≤ most → Stands ds place (flat_map (run_digits n) runs) end
    → runs_at n ds place most (old_cells runs) ≡ Ok (new_cells runs, end)
read_from_runs n ds [] place end most small each room stands = search (rules, runs_none)
read_from_runs n ds (run ∷ runs) place end zero small each room stands = search (rules, length-append)
read_from_runs n ds (run ∷ runs) place end (suc most) small each room stands =
    let count = length run.old in
    let left = run.old ++ old_cells runs in
    let parts = Stands-parts ds place (run_digits n run) (flat_map (run_digits n) runs) end stands in
    let fits = run_fits n ds place run (old_cells runs) (place + length (run_digits n run)) small each.0 parts.0 in
    let some = each.0.some in
    let all = length-append run.old (old_cells runs) in
    let least : 1 ≤ length left = omega arith in
    let fewer : length (old_cells runs) ≤ most = omega arith in
    let front : take count left ≡ run.old = take_at run.old (old_cells runs) count refl in
    let behind : drop count left ≡ old_cells runs = drop_at run.old (old_cells runs) count refl in
    let two : place + length (run_digits n run) ≡ place + 2 = ap (λ (k : ℕ). place + k) (length-digits 2 (run.shift * n + (count - 1))) in
    let others : runs_at n ds (place + 2) most (drop count left) ≡ Ok (new_cells runs, end) = ap (λ (xs : List ℕ). runs_at n ds (place + 2) most xs) behind ∙ read_from_runs n ds runs (place + 2) end most small each.1 fewer (subst (λ (k : ℕ). Stands ds k (flat_map (run_digits n) runs) end) two parts.1) in
    runs_more n ds place most left least
    ∙ (ok_bind (run_at n ds place left) (λ r. rest_of n ds place most left r) (count, run.shift) (read_from_run n ds place left count run.shift fits)
    ∙ (ok_bind (runs_at n ds (place + 2) most (drop count left)) (λ rest. Ok (moved_by run.shift (take count left) ++ rest.0, rest.1)) (new_cells runs, end) others
    ∙ ap (λ (xs : List ℕ). Ok (moved_by run.shift xs ++ new_cells runs, end)) front))

-- ---- the first fault among runs

due_more : (n : ℕ) (ds : List ℕ) (place : ℕ) (old : List ℕ) (count shift k : ℕ) (left : List ℕ) → RunFits n ds place old count shift → IsRunDue n ds (place + 2) (drop count old) k left → IsRunDue n ds place old k left
unfolding first_run
due_more n ds place old count shift k left r due =
    let run = first_run old count shift in
    record {
      runs = run ∷ due.runs;
      each = (is_run n ds place old count shift r, due.each);
      from = sym (take-append-drop count old) ∙ (ap (λ (xs : List ℕ). take count old ++ xs) due.from ∙ sym (append_assoc (take count old) (old_cells due.runs) left));
      some = due.some;
      runs_stand = Stands-then ds place (run_digits n run) (place + 2) (flat_map (run_digits n) due.runs) k (run_text n ds place old count shift r) due.runs_stand;
    }

pub runs_fault_from_read : (n : ℕ) (ds : List ℕ) (place most : ℕ) (left : List ℕ) (f : FumenFault) → 0 < n → place ≤ length ds → length left ≤ most → runs_at n ds place most left ≡ Err f → IsRunsFault n ds place left f
runs_fault_from_read n ds place zero left f some le room e = search (rules, runs_none)
runs_fault_from_read n ds place (suc most) [] f some le room e = search (rules, runs_none)
runs_fault_from_read n ds place (suc most) (cell ∷ others) f some le room e =
    let left : List ℕ = cell ∷ others in
    elim (bind_err (run_at n ds place left) (λ run. rest_of n ds place most left run) f (sym (runs_more n ds place most left (omega arith)) ∙ e)) [
      | inl bad ↦ (place, left, record { runs = []; each = tt; from = refl; some = omega arith; runs_stand = Stands-nil ds place le }, run_fault_from_read n ds place left f some le bad)
      | inr x ↦
          let run = x.0 in
          let r = run_from_read n ds place left run some le x.1 in
          let least = r.stands.some in
          let size = length-drop run.0 left in
          let fewer : length (drop run.0 left) ≤ most = omega arith in
          elim (bind_err (runs_at n ds (place + 2) most (drop run.0 left)) (λ rest. Ok (moved_by run.1 (take run.0 left) ++ rest.0, rest.1)) f x.2) [
            | inl bad ↦
                let d = runs_fault_from_read n ds (place + 2) most (drop run.0 left) f some r.stands.stands.stands.within fewer bad in
                (d.0, d.1, due_more n ds place left run.0 run.1 d.0 d.1 r d.2, d.3)
            | inr y ↦ absurd (let never = y.2 in cc)
          ]
    ]

-- a fault over the cells that are left behind some runs
fault_behind : (n : ℕ) (ds : List ℕ) (runs : List Run) (place k most : ℕ) (left : List ℕ) (f : FumenFault) → n ≤ 240 → AllByRecursion (IsCellRun n) runs → 1 ≤ length left → length (old_cells runs ++ left) ≤ most
    → Stands ds place (flat_map (run_digits n) runs) k → IsRunFault n ds k left f → runs_at n ds place most (old_cells runs ++ left) ≡ Err f
fault_behind n ds runs place k zero left f small each some room stands bad = absurd (omega (arith, length-append (old_cells runs) left))
fault_behind n ds [] place k (suc most) left f small each some room stands bad =
    let same : k ≡ place = omega (arith, stands.upto) in
    runs_more n ds place most left some ∙ err_bind (run_at n ds place left) (λ r. rest_of n ds place most left r) f (read_from_run_fault n ds place left f (subst (λ (j : ℕ). IsRunFault n ds j left f) same bad))
fault_behind n ds (run ∷ runs) place k (suc most) left f small each some room stands bad =
    let count = length run.old in
    let behind_run = old_cells runs ++ left in
    let whole : run.old ++ old_cells runs ++ left ≡ run.old ++ behind_run = append_assoc run.old (old_cells runs) left in
    let parts = Stands-parts ds place (run_digits n run) (flat_map (run_digits n) runs) k stands in
    let fits = run_fits n ds place run behind_run (place + length (run_digits n run)) small each.0 parts.0 in
    let least = each.0.some in
    let all = length-append run.old behind_run in
    let total = ap length whole in
    let more : 1 ≤ length (run.old ++ behind_run) = omega arith in
    let fewer : length behind_run ≤ most = omega arith in
    let rest : drop count (run.old ++ behind_run) ≡ behind_run = drop_at run.old behind_run count refl in
    let two : place + length (run_digits n run) ≡ place + 2 = ap (λ (j : ℕ). place + j) (length-digits 2 (run.shift * n + (count - 1))) in
    let others : runs_at n ds (place + 2) most (drop count (run.old ++ behind_run)) ≡ Err f = ap (λ (xs : List ℕ). runs_at n ds (place + 2) most xs) rest ∙ fault_behind n ds runs (place + 2) k most left f small each.1 some fewer (subst (λ (j : ℕ). Stands ds j (flat_map (run_digits n) runs) k) two parts.1) bad in
    ap (λ (xs : List ℕ). runs_at n ds place (suc most) xs) whole
    ∙ (runs_more n ds place most (run.old ++ behind_run) more
    ∙ (ok_bind (run_at n ds place (run.old ++ behind_run)) (λ r. rest_of n ds place most (run.old ++ behind_run) r) (count, run.shift) (read_from_run n ds place (run.old ++ behind_run) count run.shift fits)
    ∙ err_bind (runs_at n ds (place + 2) most (drop count (run.old ++ behind_run))) (λ x. Ok (moved_by run.shift (take count (run.old ++ behind_run)) ++ x.0, x.1)) f others))

pub read_from_runs_fault : (n : ℕ) (ds : List ℕ) (place most : ℕ) (old : List ℕ) (f : FumenFault) → n ≤ 240 → length old ≤ most → IsRunsFault n ds place old f → runs_at n ds place most old ≡ Err f
read_from_runs_fault n ds place most old f small room bad =
    let due = bad.2 in
    let size : length (old_cells due.runs ++ bad.1) ≤ most = omega (arith, ap length due.from) in
    ap (λ (xs : List ℕ). runs_at n ds place most xs) due.from ∙ fault_behind n ds due.runs place bad.0 most bad.1 f small due.each due.some size due.runs_stand bad.3
