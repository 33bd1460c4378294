-- What the function that reads a tree does at each of its ends.
use Rattle.std.proofs.Common.{◌≡◌, ◌≢◌, ◌==◌, eqb-true, eq-eqb, ℕ, zero, suc, ◌≤◌, ◌<◌, ◌+◌, Bool, true, false, not, ◌&&◌, cond, List, [], ◌∷◌, ◌++◌, length, take, drop, Some, None, Result, Ok, Err, refl, ap, ap₂, ◌∙◌, sym, subst, arith}
use Rattle.std.specs.List.{position_or_len}
use Rattle.clr_base.specs.declared.ids.DefId.{DefId}
use Rattle.type_tree.specs.declared.tree.Ty.{Ty}
use Rattle.type_tree.specs.declared.tree.Ty.TheVariants as ty
use Rattle.type_tree.specs.declared.read_text.Stop.{Stop}
use Rattle.type_tree.specs.declared.read_text.Stop.TheVariants as stop
use Rattle.type_tree.specs.World.{Facts}
use Rattle.type_tree.specs.Measure.{depth, depth_step, depth_of_all}
use Rattle.type_tree.specs.ReadTexts.{is_mark, is_plain}
use Rattle.type_tree.specs.Reading.{IfRefused, Answers, IsSplit, IsDefinition, behind, list_at, array_at, arrays, in_arrays, AreArrays, is_end, BeginsList, BeginsArguments, BeginsTree, Begins, last, next, none, some}
use Rattle.type_tree.proofs.Folds.{fold-Inst, fold-Array}
use Rattle.type_tree.proofs.ReadingLemmas.{split_unique, arrays_unique, arguments_one, begins_one, shallow}

-- what stops one function stops its caller
pub pass_on : {P Q : Type 0} (e : Stop) → IfRefused e P → (P → Q) → IfRefused e Q
pass_on stop.Refused h f = f h
pass_on stop.Memory h f = tt

-- arguments

module _ (One : List ℕ → Ty → List ℕ → Type 0) (text inner : List ℕ) (opens : list_at text ≡ Some inner) where
  only_list : (never : (ts : List Ty) (r : List ℕ) → ¬ (BeginsList One inner ts r)) (ts : List Ty) (r : List ℕ) → ¬ (BeginsArguments One text ts r)
  only_list never ts r h = go h opens
    where
      go : {s : List ℕ} {us : List Ty} {q : List ℕ} → BeginsArguments One s us q → list_at s ≡ Some inner → ⊥
      go (none s e) f = absurd (cc)
      go (some s inner2 us q e k) f = let same : inner2 ≡ inner = cc in never us q (subst (λ i. BeginsList One i us q) same k)

  pub in_brackets : {Y : Type 0} (trees : Y → List Ty) (behind : Y → List ℕ) (result : Result Y Stop)
      → Answers (λ x. BeginsList One inner (trees x) (behind x)) ((ts : List Ty) (r : List ℕ) → ¬ (BeginsList One inner ts r)) result
      → Answers (λ x. BeginsArguments One text (trees x) (behind x)) ((ts : List Ty) (r : List ℕ) → ¬ (BeginsArguments One text ts r)) result
  in_brackets trees behind (Ok x) h = some text inner (trees x) (behind x) opens h
  in_brackets trees behind (Err stop.Refused) h = only_list h
  in_brackets trees behind (Err stop.Memory) h = tt

-- names

pub split_at_mark : (s : List ℕ) → IsSplit s (take (position_or_len is_mark s) s) (drop (position_or_len is_mark s) s)
split_at_mark [] = record { whole = refl; plain = refl; past = refl }
split_at_mark (x ∷ xs) = go (is_plain x) refl (split_at_mark xs)
  where
    longer : (k : ℕ) → k ≡ suc (position_or_len is_mark xs) → is_plain x ≡ true → IsSplit xs (take (position_or_len is_mark xs) xs) (drop (position_or_len is_mark xs) xs) → IsSplit (x ∷ xs) (take k (x ∷ xs)) (drop k (x ∷ xs))
    longer k is plain rest = subst (λ m. IsSplit (x ∷ xs) (take m (x ∷ xs)) (drop m (x ∷ xs))) (sym is) (record {
      whole = ap (λ s. x ∷ s) rest.whole;
      plain = ap₂ ◌&&◌ plain rest.plain;
      past = rest.past;
    })

    go : (plain : Bool) → is_plain x ≡ plain → IsSplit xs (take (position_or_len is_mark xs) xs) (drop (position_or_len is_mark xs) xs)
        → IsSplit (x ∷ xs) (take (cond plain (1 + position_or_len is_mark xs) 0) (x ∷ xs)) (drop (cond plain (1 + position_or_len is_mark xs) 0) (x ∷ xs))
    go true e rest = longer (1 + position_or_len is_mark xs) (omega arith) e rest
    go false e rest = record { whole = refl; plain = refl; past = marked (is_mark x) e }
      where
        marked : (m : Bool) → not m ≡ false → m ≡ true
        marked true f = refl
        marked false f = absurd (cc)

pub mark-within : (s : List ℕ) → position_or_len is_mark s ≤ length s
mark-within [] = omega arith
mark-within (x ∷ xs) = go (is_plain x) (mark-within xs)
  where
    go : (plain : Bool) → position_or_len is_mark xs ≤ length xs → cond plain (1 + position_or_len is_mark xs) 0 ≤ suc (length xs)
    go true rest = omega arith
    go false rest = omega arith

-- arrays

pub arrays-more : (k : ℕ) (r : List ℕ) → arrays k ++ (91 ∷ 93 ∷ r) ≡ arrays (suc k) ++ r
arrays-more zero r = refl
arrays-more (suc k) r = ap (λ s. 91 ∷ 93 ∷ s) (arrays-more k r)

pub behind-some : (b : ℕ) (s r : List ℕ) → behind b s ≡ Some r → s ≡ b ∷ r
behind-some b [] r e = absurd (cc)
behind-some b (c ∷ s) r e = go (c == b) refl e
  where
    go : (x : Bool) → (c == b) ≡ x → cond x (Some s) None ≡ Some r → c ∷ s ≡ b ∷ r
    go true p f = let same : s ≡ r = cc in ap₂ ◌∷◌ (eqb-true c b p) same
    go false p f = absurd (cc)

pub behind-none : (b : ℕ) (s : List ℕ) → behind b s ≡ None → (q : List ℕ) → s ≢ b ∷ q
behind-none b s e q is =
    let here : cond (b == b) (Some q) None ≡ None = ap (behind b) (sym is) ∙ e in
    let found : cond true (Some q) None ≡ None = ap (λ x. cond x (Some q) None) (sym (eq-eqb b b refl)) ∙ here in
    cc

pub array_at-some : (s r : List ℕ) → array_at s ≡ Some r → s ≡ 91 ∷ 93 ∷ r
array_at-some [] r e = absurd (cc)
array_at-some (b ∷ []) r e = absurd (cc)
array_at-some (b ∷ c ∷ s) r e = go (b == 91) (c == 93) refl refl e
  where
    go : (x y : Bool) → (b == 91) ≡ x → (c == 93) ≡ y → cond (x && y) (Some s) None ≡ Some r → b ∷ c ∷ s ≡ 91 ∷ 93 ∷ r
    go true true p q f = let same : s ≡ r = cc in ap₂ ◌∷◌ (eqb-true b 91 p) (ap₂ ◌∷◌ (eqb-true c 93 q) same)
    go true false p q f = absurd (cc)
    go false y p q f = absurd (cc)

-- how deep

pub deep : (count : ℕ) (d : DefId) (ts : List Ty) → depth (in_arrays count (ty.Inst d ts)) ≡ count + suc (depth_of_all ts)
deep zero d ts = let e = fold-Inst ℕ depth_step d ts in omega (arith, e)
deep (suc k) d ts = let e = fold-Array ℕ depth_step (in_arrays k (ty.Inst d ts)) in omega (arith, e, deep k d ts)

module _ (w : Facts) (n : ℕ) where
  list_shallow : {s : List ℕ} {ts : List Ty} {r : List ℕ} → BeginsList (Begins w n) s ts r → depth_of_all ts ≤ n
  list_shallow (last s t r h) = omega (arith, shallow w n _ _ _ h)
  list_shallow (next s t others ts r h hs) = omega (arith, shallow w n _ _ _ h, list_shallow hs)

  pub arguments_shallow : {s : List ℕ} {ts : List Ty} {r : List ℕ} → BeginsArguments (Begins w n) s ts r → depth_of_all ts ≤ n
  arguments_shallow (none s e) = omega arith
  arguments_shallow (some s inner ts r e h) = list_shallow h

pub no_levels : (w : Facts) (levels : ℕ) → levels ≡ 0 → (s : List ℕ) (t : Ty) (r : List ℕ) → ¬ (Begins w levels s t r)
unfolding Begins
no_levels w zero e s t r h = h
no_levels w (suc n) e s t r h = absurd (omega arith)

module _ (w : Facts) (levels n : ℕ) (is : levels ≡ suc n) where
  opened : (s : List ℕ) (t : Ty) (r : List ℕ) → Begins w levels s t r → BeginsTree w (Begins w n) s t r
  unfolding Begins
  opened s t r h = let k : Begins w (suc n) s t r = subst (λ m. Begins w m s t r) is h in k.0

  module _ {s name rest : List ℕ} (split : IsSplit s name rest) where
    same_split : {t : Ty} {r : List ℕ} (h : BeginsTree w (Begins w n) s t r) → (h.name ≡ name) × (h.past_name ≡ rest)
    same_split h = split_unique h.name name h.past_name rest h.split.plain h.split.past split.plain split.past (sym h.split.whole ∙ split.whole)

    pub no_definition : ((d : DefId) → ¬ (IsDefinition w name d)) → (t : Ty) (r : List ℕ) → ¬ (Begins w levels s t r)
    no_definition never t r h =
        let k = opened s t r h in
        never k.def (subst (λ m. IsDefinition w m k.def) (same_split k).0 k.definition)

    pub no_arguments : ((ts : List Ty) (r : List ℕ) → ¬ (BeginsArguments (Begins w n) rest ts r)) → (t : Ty) (r : List ℕ) → ¬ (Begins w levels s t r)
    no_arguments never t r h =
        let k = opened s t r h in
        never k.args k.past_args (subst (λ p. BeginsArguments (Begins w n) p k.args k.past_args) (same_split k).1 k.arguments)

    module _ {ts : List Ty} {past : List ℕ} (arguments : BeginsArguments (Begins w n) rest ts past) {count : ℕ} {behind : List ℕ} (suffix : AreArrays past count behind) where
      same_rest : {t : Ty} {r : List ℕ} (h : BeginsTree w (Begins w n) s t r) → (h.args ≡ ts) × (h.count ≡ count) × (r ≡ behind)
      same_rest {r = r} h =
          let args = arguments_one (Begins w n) (begins_one w n) (subst (λ p. BeginsArguments (Begins w n) p h.args h.past_args) (same_split h).1 h.arguments) arguments in
          let tail = arrays_unique h.count count r behind h.suffix.no_more suffix.no_more (sym h.suffix.whole ∙ args.1 ∙ suffix.whole) in
          (args.0, tail.0, tail.1)

      pub no_end : is_end behind ≡ false → (t : Ty) (r : List ℕ) → ¬ (Begins w levels s t r)
      no_end e t r h =
          let k = opened s t r h in
          let on_off : true ≡ false = sym k.end ∙ ap is_end (same_rest k).2 ∙ e in
          cc

      pub too_deep : levels ≤ count + depth_of_all ts → (t : Ty) (r : List ℕ) → ¬ (Begins w levels s t r)
      too_deep le t r h =
          let k = opened s t r h in
          let same = same_rest k in
          let is_deep : depth t ≤ levels = shallow w levels _ _ _ h in
          let e1 : depth t ≡ k.count + suc (depth_of_all k.args) = ap depth k.tree ∙ deep k.count k.def k.args in
          let e2 : depth_of_all k.args ≡ depth_of_all ts = ap depth_of_all same.0 in
          let e3 : k.count ≡ count = same.1 in
          omega (arith, is_deep, e1, e2, e3, le, is)

      pub found : {d : DefId} → IsDefinition w name d → is_end behind ≡ true → count + depth_of_all ts < levels → Begins w levels s (in_arrays count (ty.Inst d ts)) behind
      unfolding Begins
      found {d = d} definition end lt =
          let tree : BeginsTree w (Begins w n) s (in_arrays count (ty.Inst d ts)) behind = record {
            name = name;
            past_name = rest;
            split = split;
            def = d;
            definition = definition;
            args = ts;
            past_args = past;
            arguments = arguments;
            count = count;
            suffix = suffix;
            end = end;
            tree = refl;
          } in
          let low : depth (in_arrays count (ty.Inst d ts)) ≤ suc n = omega (arith, deep count d ts, lt, is) in
          subst (λ m. Begins w m s (in_arrays count (ty.Inst d ts)) behind) (sym is) (tree, low)
