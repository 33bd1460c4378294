-- How reading goes on from one step to the next.
use Rattle.std.proofs.Common.{◌≡◌, ℕ, zero, suc, ◌-◌, ◌<◌, ◌≤◌, true, false, cond, List, [], ◌∷◌, ◌++◌, Result, Ok, Err, refl, sym, ap, subst, ◌∙◌, append_assoc, arith}
use Rattle.std.specs.Prelude.{◌==◌}
use Rattle.std.proofs.lemmas.Bool.{eqb-false}
use Rattle.std.proofs.lemmas.List.{append-nil}
use Rattle.cil_code.specs.declared.code_fault.CodeFault.{CodeFault}
use Rattle.cil_code.specs.declared.code_fault.CodeFault.TheVariants as fault
use Rattle.cil_code.specs.declared.body.Prefix.{Prefix}
use Rattle.cil_code.specs.declared.body.Instr.{Instr}
use Rattle.cil_code.specs.declared.body.Placed.{Placed}
use Rattle.cil_code.specs.Reading.{◌>>=◌, Fails, Window, fault_at, coded_at, targets_at, instr_at, list_at}

-- a fault of the first step is the fault of the whole
pub fails_first : {A B : Type 0} (e : CodeFault) (r : Result A CodeFault) (f : A → Result B CodeFault) → Fails e r → Fails e (r >>= f)
fails_first fault.Memory r f h = tt
fails_first (fault.NotInProfile n) r f h = ap (λ x. x >>= f) h
fails_first (fault.BadBody n) r f h = ap (λ x. x >>= f) h

pub fails_along : {A : Type 0} (e : CodeFault) (r s : Result A CodeFault) → r ≡ s → Fails e r → Fails e s
fails_along {A = A} e r s same h = subst (λ (x : Result A CodeFault). Fails e x) same h

-- ---- one instruction

-- reading an instruction has come to here: what is still to be read gives what all would
pub record Continues (prefixes : List Prefix) (now start : Window) : Type 0 where
  pub most : ℕ
  pub enough : now.left ≤ most
  pub some : 0 < now.left
  pub within : now.left ≤ start.left
  pub same : instr_at most prefixes now ≡ instr_at start.left [] start

pub continues_first : (w : Window) → 0 < w.left → Continues [] w w
continues_first w some = record { most = w.left; enough = omega arith; some = some; within = omega arith; same = refl }

-- what follows the code and operand of an instruction or a prefix
abbrev behind_coded : ℕ → List Prefix → Window → Prefix × Window → Result (Instr × Window) CodeFault
behind_coded n prefixes w coded =
    cond coded.0.op.is_prefix
    (cond (coded.1.left == 0) (Err (fault_at w.place w)) (instr_at n (prefixes ++ coded.0 ∷ []) coded.1))
    (targets_at w.place coded.0 coded.1 >>= λ targets. Ok (record { prefixes = prefixes; op = coded.0.op; operand = coded.0.operand; targets = targets.0 }, targets.1))

instr_by_coded : (n : ℕ) (prefixes : List Prefix) (w : Window) → 0 < n → instr_at n prefixes w ≡ (coded_at w >>= behind_coded (n - 1) prefixes w)
unfolding instr_at
instr_by_coded zero prefixes w some = absurd (omega arith)
instr_by_coded (suc n) prefixes w some =
    let k : suc n - 1 ≡ n = omega arith in
    rw k refl

by_coded : (prefixes : List Prefix) (w start : Window) (c : Continues prefixes w start)
    → (coded_at w >>= behind_coded (c.most - 1) prefixes w) ≡ instr_at start.left [] start
by_coded prefixes w start c =
    let some : 0 < c.most = omega (arith, c.enough, c.some) in
    sym (instr_by_coded c.most prefixes w some) ∙ c.same

pub coded_fails : (prefixes : List Prefix) (w start : Window) (e : CodeFault) → Continues prefixes w start → Fails e (coded_at w) → Fails e (instr_at start.left [] start)
coded_fails prefixes w start e c h = fails_along e _ _ (by_coded prefixes w start c) (fails_first e (coded_at w) (behind_coded (c.most - 1) prefixes w) h)

behind : (prefixes : List Prefix) (w start v : Window) (coded : Prefix) (c : Continues prefixes w start) → coded_at w ≡ Ok (coded, v)
    → behind_coded (c.most - 1) prefixes w (coded, v) ≡ instr_at start.left [] start
behind prefixes w start v coded c h = sym (ap (λ r. r >>= behind_coded (c.most - 1) prefixes w) h) ∙ by_coded prefixes w start c

pub targets_fail : (prefixes : List Prefix) (w start v : Window) (coded : Prefix) (e : CodeFault) → Continues prefixes w start → coded_at w ≡ Ok (coded, v)
    → coded.op.is_prefix ≡ false → (place : ℕ) → place ≡ w.place → Fails e (targets_at place coded v) → Fails e (instr_at start.left [] start)
targets_fail prefixes w start v coded e c h isnt place here failed_there =
    let failed = subst (λ (n : ℕ). Fails e (targets_at n coded v)) here failed_there in
    fails_along e _ _
    (sym (ap (λ b. cond b (cond (v.left == 0) (Err (fault_at w.place w)) (instr_at (c.most - 1) (prefixes ++ coded ∷ []) v))
    (targets_at w.place coded v >>= λ targets. Ok (record { prefixes = prefixes; op = coded.op; operand = coded.operand; targets = targets.0 }, targets.1))) isnt)
    ∙ behind prefixes w start v coded c h)
    (fails_first e (targets_at w.place coded v) (λ targets. Ok (record { prefixes = prefixes; op = coded.op; operand = coded.operand; targets = targets.0 }, targets.1)) failed)

pub instr_found : (prefixes : List Prefix) (w start v u : Window) (coded : Prefix) (targets : List ℕ) → Continues prefixes w start → coded_at w ≡ Ok (coded, v)
    → coded.op.is_prefix ≡ false → (place : ℕ) → place ≡ w.place → targets_at place coded v ≡ Ok (targets, u)
    → instr_at start.left [] start ≡ Ok (record { prefixes = prefixes; op = coded.op; operand = coded.operand; targets = targets }, u)
instr_found prefixes w start v u coded targets c h isnt place here found_there =
    let found = subst (λ (n : ℕ). targets_at n coded v ≡ Ok (targets, u)) here found_there in
    sym (behind prefixes w start v coded c h)
    ∙ ap (λ b. cond b (cond (v.left == 0) (Err (fault_at w.place w)) (instr_at (c.most - 1) (prefixes ++ coded ∷ []) v))
    (targets_at w.place coded v >>= λ ts. Ok (record { prefixes = prefixes; op = coded.op; operand = coded.operand; targets = ts.0 }, ts.1))) isnt
    ∙ ap (λ r. r >>= λ (ts : List ℕ × Window). Ok (record { prefixes = prefixes; op = coded.op; operand = coded.operand; targets = ts.0 }, ts.1)) found

behind_prefix : (prefixes : List Prefix) (w start v : Window) (coded : Prefix) (c : Continues prefixes w start) → coded_at w ≡ Ok (coded, v)
    → coded.op.is_prefix ≡ true
    → cond (v.left == 0) (Err (fault_at w.place w)) (instr_at (c.most - 1) (prefixes ++ coded ∷ []) v) ≡ instr_at start.left [] start
behind_prefix prefixes w start v coded c h is =
    sym (ap (λ b. cond b (cond (v.left == 0) (Err (fault_at w.place w)) (instr_at (c.most - 1) (prefixes ++ coded ∷ []) v))
    (targets_at w.place coded v >>= λ ts. Ok (record { prefixes = prefixes; op = coded.op; operand = coded.operand; targets = ts.0 }, ts.1))) is)
    ∙ behind prefixes w start v coded c h

pub prefix_alone : (prefixes : List Prefix) (w start v : Window) (coded : Prefix) → Continues prefixes w start → coded_at w ≡ Ok (coded, v)
    → coded.op.is_prefix ≡ true → (v.left == 0) ≡ true → instr_at start.left [] start ≡ Err (fault_at w.place w)
prefix_alone prefixes w start v coded c h is ended =
    sym (behind_prefix prefixes w start v coded c h is)
    ∙ ap (λ b. cond b (Err (fault_at w.place w)) (instr_at (c.most - 1) (prefixes ++ coded ∷ []) v)) ended

pub prefix_read : (prefixes : List Prefix) (w start v : Window) (coded : Prefix) → Continues prefixes w start → coded_at w ≡ Ok (coded, v)
    → coded.op.is_prefix ≡ true → (v.left == 0) ≡ false → v.left < w.left → Continues (prefixes ++ coded ∷ []) v start
prefix_read prefixes w start v coded c h is more less = record {
  most = c.most - 1;
  enough = omega (arith, c.enough);
  some = omega (arith, eqb-false v.left 0 more);
  within = omega (arith, c.within);
  same = sym (ap (λ b. cond b (Err (fault_at w.place w)) (instr_at (c.most - 1) (prefixes ++ coded ∷ []) v)) more) ∙ behind_prefix prefixes w start v coded c h is;
}

-- ---- the list of instructions

abbrev pub with_front : List Placed → Result (List Placed) CodeFault → Result (List Placed) CodeFault
with_front front read = read >>= λ rest. Ok (front ++ rest)

-- reading the list has come to here
pub record Lists (front : List Placed) (now start : Window) : Type 0 where
  pub most : ℕ
  pub enough : now.left ≤ most
  pub same : with_front front (list_at most now) ≡ list_at start.left start

nothing_before : (read : Result (List Placed) CodeFault) → with_front [] read ≡ read
nothing_before (Ok rest) = refl
nothing_before (Err e) = refl

pub lists_first : (w : Window) → Lists [] w w
lists_first w = record { most = w.left; enough = omega arith; same = nothing_before (list_at w.left w) }

regroup : (front : List Placed) (p : Placed) (read : Result (List Placed) CodeFault) → with_front front (read >>= λ rest. Ok (p ∷ rest)) ≡ with_front (front ++ p ∷ []) read
regroup front p (Ok rest) = ap (λ (ps : List Placed). Ok ps) (sym (append_assoc front (p ∷ []) rest))
regroup front p (Err e) = refl

abbrev behind_instr : ℕ → Window → Instr × Window → Result (List Placed) CodeFault
behind_instr n w first = list_at n first.1 >>= λ rest. Ok (record { place = w.place; instr = first.0 } ∷ rest)

list_by_instr : (n : ℕ) (w : Window) → 0 < n → (w.left == 0) ≡ false → list_at n w ≡ (instr_at w.left [] w >>= behind_instr (n - 1) w)
unfolding list_at
list_by_instr zero w some more = absurd (omega arith)
list_by_instr (suc n) w some more =
    let k : suc n - 1 ≡ n = omega arith in
    rw k (ap (λ b. cond b (Ok []) (instr_at w.left [] w >>= behind_instr n w)) more)

by_instr : (front : List Placed) (w start : Window) (c : Lists front w start) → (w.left == 0) ≡ false
    → with_front front (instr_at w.left [] w >>= behind_instr (c.most - 1) w) ≡ list_at start.left start
by_instr front w start c more =
    let some : 0 < c.most = omega (arith, c.enough, eqb-false w.left 0 more) in
    sym (ap (with_front front) (list_by_instr c.most w some more)) ∙ c.same

pub instr_fails : (front : List Placed) (w start : Window) (e : CodeFault) → Lists front w start → (w.left == 0) ≡ false
    → Fails e (instr_at w.left [] w) → Fails e (list_at start.left start)
instr_fails front w start e c more h =
    fails_along e _ _ (by_instr front w start c more)
    (fails_first e (instr_at w.left [] w >>= behind_instr (c.most - 1) w) (λ rest. Ok (front ++ rest))
    (fails_first e (instr_at w.left [] w) (behind_instr (c.most - 1) w) h))

pub instr_listed : (front : List Placed) (w start v : Window) (i : Instr) → Lists front w start → (w.left == 0) ≡ false
    → instr_at w.left [] w ≡ Ok (i, v) → v.left < w.left → Lists (front ++ record { place = w.place; instr = i } ∷ []) v start
instr_listed front w start v i c more h less = record {
  most = c.most - 1;
  enough = omega (arith, c.enough);
  same =
      sym (regroup front (record { place = w.place; instr = i }) (list_at (c.most - 1) v))
      ∙ sym (ap (λ r. with_front front (r >>= behind_instr (c.most - 1) w)) h)
      ∙ by_instr front w start c more;
}

list_ends : (n : ℕ) (w : Window) → (w.left == 0) ≡ true → list_at n w ≡ Ok []
unfolding list_at
list_ends zero w ended = refl
list_ends (suc n) w ended = ap (λ b. cond b (Ok []) (instr_at w.left [] w >>= behind_instr n w)) ended

pub all_listed : (front : List Placed) (w start : Window) → Lists front w start → (w.left == 0) ≡ true → list_at start.left start ≡ Ok front
all_listed front w start c ended =
    sym c.same ∙ ap (with_front front) (list_ends c.most w ended) ∙ ap (λ (ps : List Placed). Ok ps) (append-nil front)
