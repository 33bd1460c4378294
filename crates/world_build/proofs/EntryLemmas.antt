-- The parts of an entry's word, and the first entry among a definition's methods.
use Rattle.std.proofs.Common.{◌≡◌, ℕ, suc, ◌+◌, ◌-◌, ◌<◌, ◌≤◌, Bool, true, false, cond, List, ◌++◌, codes, length, take, drop, Option, Some, None, slice_get, IsTrue, sym, ap, ◌∙◌, arith}
use Rattle.std.specs.Prelude.{MatchOption}
use Rattle.std.specs.List.{find, range_with_len}
use Rattle.std.specs.Option.{IfSome, IfNone}
use Rattle.std.specs.Str.Pattern.{LacksTextAt, HasTextAt, RFindsText, SplitsAroundMatch}
use Rattle.std.proofs.Math.Seq.{drop-append_seam}
use Rattle.std.proofs.lemmas.Bool.{and_parts, leb-true}
use borrow.Author.Tests.{ltb-true}
use Rattle.std.proofs.lemmas.List.{take-append-drop, length-append}
use denote.Ref.{Bor}
use Rattle.clr_base.specs.declared.ids.DefId.{DefId}
use Rattle.type_tree.specs.declared.definition.Def.{Def}
use Rattle.type_tree.specs.declared.definition.Method.{Method}
use Rattle.type_tree.specs.World.{Facts}
use Rattle.type_tree.specs.Fits.{def_fits, method_fits}
use Rattle.type_tree.specs.Whole.{IsWhole, counts}
use Rattle.type_tree.proofs.WholeLemmas.{few}
use Rattle.world_build.specs.Entries.{IsParted, is_entry_at, own_methods, entry_in}

-- ---- the parts of a word

nowhere_parted : (word : List ℕ) → ((i : ℕ) → i ≤ length word → LacksTextAt (codes "::") word i) → (owner name : List ℕ) → ¬ (IsParted word owner name)
nowhere_parted word never owner name h =
    let inside : length owner ≤ length word = omega (arith, ap length h.whole, length-append owner (codes "::" ++ name)) in
    never (length owner) inside name (ap (drop (length owner)) h.whole ∙ drop-append_seam owner (codes "::" ++ name))

parted_at : (word owner name : List ℕ) (i j : ℕ) → ((k : ℕ) → i < k → k ≤ length word → LacksTextAt (codes "::") word k) → HasTextAt (codes "::") word i j
    → owner ≡ take i word → name ≡ drop j word → length owner ≡ i → IsParted word owner name
parted_at word owner name i j last at is_owner is_name len = record {
  whole = sym (take-append-drop i word) ∙ ap (λ (o : List ℕ). o ++ drop i word) (sym is_owner)
      ∙ ap (λ (o : List ℕ). owner ++ o) (at.split ∙ ap (λ (o : List ℕ). codes "::" ++ o) (sym is_name));
  last = λ k behind inside. last k (omega (arith, behind, len)) inside;
}

abbrev pub Splits : List ℕ → Option (Bor (List ℕ) × Bor (List ℕ)) → Type 0
Splits word r = MatchOption r (RFindsText (codes "::") word None) (λ x. SplitsAroundMatch (RFindsText (codes "::")) word x.0.now x.1.now)

pub splits_parted : (word : List ℕ) (r : Option (Bor (List ℕ) × Bor (List ℕ))) → Splits word r → IfSome r (λ x. IsParted word x.0.now x.1.now)
splits_parted word None h = tt
splits_parted word (Some x) h = parted_at word x.0.now x.1.now h.0 h.1 h.2.0 h.2.1 h.3 h.4 h.6

pub splits_nowhere : (word : List ℕ) (r : Option (Bor (List ℕ) × Bor (List ℕ))) → Splits word r → IfNone r ((owner name : List ℕ) → ¬ (IsParted word owner name))
splits_nowhere word None h = nowhere_parted word h
splits_nowhere word (Some x) h = tt

-- ---- the first entry

-- one number of a run is looked at
pub one_looked : (p : ℕ → Bool) (first n i : ℕ) → i < n
    → find p (range_with_len (first + i) (n - i)) ≡ cond (p (first + i)) (Some (first + i)) (find p (range_with_len (first + (i + 1)) (n - (i + 1))))
one_looked p first n i inside =
    let left : n - i ≡ suc (n - (i + 1)) = omega (arith, inside) in
    let next : first + i + 1 ≡ first + (i + 1) = omega arith in
    ap (λ (k : ℕ). find p (range_with_len (first + i) k)) left
    ∙ ap (λ (k : ℕ). cond (p (first + i)) (Some (first + i)) (find p (range_with_len k (n - (i + 1))))) next

pub looked_at : (p : ℕ → Bool) (first n i : ℕ) (o : Option ℕ) → i < n → find p (range_with_len (first + i) (n - i)) ≡ o → p (first + i) ≡ true → o ≡ Some (first + i)
looked_at p first n i o inside before passes =
    sym before ∙ one_looked p first n i inside ∙ ap (λ (b : Bool). cond b (Some (first + i)) (find p (range_with_len (first + (i + 1)) (n - (i + 1))))) passes

pub passed_over : (p : ℕ → Bool) (first n i : ℕ) (o : Option ℕ) → i < n → find p (range_with_len (first + i) (n - i)) ≡ o → p (first + i) ≡ false
    → find p (range_with_len (first + (i + 1)) (n - (i + 1))) ≡ o
passed_over p first n i o inside before fails =
    sym (ap (λ (b : Bool). cond b (Some (first + i)) (find p (range_with_len (first + (i + 1)) (n - (i + 1))))) fails) ∙ sym (one_looked p first n i inside) ∙ before

pub all_looked : (p : ℕ → Bool) (first n i : ℕ) (o : Option ℕ) → n ≤ i → find p (range_with_len (first + i) (n - i)) ≡ o → o ≡ None
all_looked p first n i o past before =
    let nothing_left : n - i ≡ 0 = omega (arith, past) in
    sym before ∙ ap (λ (k : ℕ). find p (range_with_len (first + i) k)) nothing_left

module _ (w : Facts) (whole : IsWhole w) (d : Def) (fits : IsTrue (def_fits (counts w) d)) where
  pub methods_inside : d.first_method + d.methods ≤ length w.methods
  methods_inside =
      let a = and_parts _ _ fits in
      let b = and_parts _ _ a.0 in
      let c = and_parts _ _ b.0 in
      let e = and_parts _ _ c.0 in
      let f = and_parts _ _ e.0 in
      leb-true _ _ (and_parts _ _ f.1).1

  pub methods_small : d.first_method + d.methods ≤ 16777215
  methods_small = omega (arith, methods_inside, (few w whole).methods)

pub entry_where : (w : Facts) (name : List ℕ) (id : DefId) (d : Def) → slice_get w.defs id.0 ≡ Some d
    → entry_in w name id ≡ find (λ n. is_entry_at w name (slice_get w.methods n)) (range_with_len d.first_method d.methods)
unfolding entry_in
entry_where w name id d e = ap (λ (o : Option Def). find (λ n. is_entry_at w name (slice_get w.methods n)) (own_methods o)) e

pub name_there : (w : Facts) (m : Method) → IsTrue (method_fits (counts w) m) → m.name.0 < length w.names
name_there w m fits =
    let a = and_parts _ _ fits in
    let b = and_parts _ _ a.0 in
    let c = and_parts _ _ b.0 in
    let d = and_parts _ _ c.0 in
    ltb-true _ _ d.0
