-- Notes of chains, and marks of definitions.
use Rattle.std.proofs.Common.{◌≡◌, ℕ, zero, suc, ◌+◌, ◌≤◌, ◌<◌, min, nat_eq, nat_le, nat_lt, ◌==◌, get_or, Bool, true, false, ◌||◌, ◌&&◌, ◌↔◌, IsTrue, List, [], ◌∷◌, ◌++◌, length, drop, set, Option, Some, None, slice_get, inl, inr, ◌⊎◌, refl, ap, ap₂, ◌∙◌, sym, subst, arith, length-set}
use Rattle.std.proofs.lemmas.Bool.{or_cases, and_parts, le-leb, ltb-true, lt-ltb, cases_lt}
use Rattle.std.proofs.lemmas.Bool.Decides.{eqb_tells, leb_tells}
use Rattle.std.proofs.lemmas.List.Folds.{list_any-append, list_all-append}
use Rattle.std.proofs.lemmas.Option.{slice_get_within, slice_get_past, slice_get-get_or}
use Rattle.std.proofs.Math.Bool.{or-true, or-false, and-false}
use Rattle.std.specs.List.{list_any, list_all}
use Rattle.std.specs.Option.{option_map_or}
use Rattle.clr_base.specs.declared.ids.DefId.{DefId}
use Rattle.type_tree.specs.declared.definition.Def.{Def}
use Rattle.type_tree.specs.Kinds.{parent_of}
use Rattle.type_tree.specs.World.{Facts}
use Rattle.def_faults.specs.declared.notes.Note.{Note}
use Rattle.def_faults.specs.declared.notes.Mark.{Mark}
use Rattle.def_faults.specs.declared.notes.Mark.TheVariants.{Unknown, OnPath, Known}
use Rattle.def_faults.specs.Chains.{parent, head_of, chain_within, OnChain}
use Rattle.def_faults.specs.Marks.{On, Leads, first_or, IsNote, is_on, IsMarked, Climbed, mark_at, lone, round_note}
use Rattle.def_faults.specs.NotFound.{lacks, lacks_a_type}
use Rattle.def_faults.specs.NotInProfile.{is_delegate}
use Rattle.def_faults.proofs.Circles.{here, above, either, on_path, leads_drop, endless, stays}
use Rattle.def_faults.proofs.Lists.{drop_at, set_same, set_at, set_other}
use Rattle.def_faults.proofs.Paths.{first_last, shorter}

module _ (w : Facts) where
  pub no_chain_note : IsNote w None (record { members = 0; lacks = false; delegate = false })
  no_chain_note = record {
    few = omega arith;
    members = λ n h. sym (le-leb 0 n (omega arith));
    lacks = (λ h. absurd (cc), λ h. absurd h);
    delegate = (λ h. absurd (cc), λ h. absurd h);
  }

  -- one more member
  one_more : (a n : ℕ) → n < 64 → nat_le a n ≡ nat_le (min a 64 + 1) (suc n)
  one_more a n small = elim (leb_tells a n) [
    | inl t ↦ t.0 ∙ sym (le-leb (min a 64 + 1) (suc n) (omega (arith, t.1)))
    | inr f ↦ f.0 ∙ sym (over (leb_tells (min a 64 + 1) (suc n)) f.1)
  ]
    where
      over : ((nat_le (min a 64 + 1) (suc n) ≡ true) × (min a 64 + 1 ≤ suc n)) ⊎ ((nat_le (min a 64 + 1) (suc n) ≡ false) × (suc n < min a 64 + 1)) → n < a → nat_le (min a 64 + 1) (suc n) ≡ false
      over (inl t) h = absurd (omega (arith, t.1, h, small))
      over (inr f) h = f.0

  on_or : (p : DefId → Bool) (id : DefId) (b : Bool) → IsTrue b ↔ On (parent w) p (parent w id) → IsTrue (p id || b) ↔ OnChain (parent w) p id
  on_or p id b h = (
    λ e. elim (or_cases (p id) b e) [ inl a ↦ here (parent w) p id a | inr c ↦ above (parent w) p id (parent w id) refl (h.0 c) ],
    λ o. elim (either (parent w) p id o) [ inl a ↦ ap (λ c. c || b) a | inr c ↦ ap (λ d. p id || d) (h.1 c) ∙ or-true (p id) ],
  )

  module _ (id : DefId) (a : Note) (note : IsNote w (parent w id) a) where
    counted : (n : ℕ) → n ≤ 64 → chain_within (parent w) n id ≡ nat_le (min a.members 64 + 1) n
    unfolding chain_within
    counted zero h = sym (none (leb_tells (min a.members 64 + 1) 0))
      where
        none : ((nat_le (min a.members 64 + 1) 0 ≡ true) × (min a.members 64 + 1 ≤ 0)) ⊎ ((nat_le (min a.members 64 + 1) 0 ≡ false) × (0 < min a.members 64 + 1)) → nat_le (min a.members 64 + 1) 0 ≡ false
        none (inl t) = absurd (omega (arith, t.1))
        none (inr f) = f.0
    counted (suc n) h = note.members n (omega (arith, h)) ∙ one_more a.members n (omega (arith, h))

    pub note_below : IsNote w (Some id) (record { members = min a.members 64 + 1; lacks = lacks w id || a.lacks; delegate = is_delegate w id || a.delegate })
    note_below = record {
      few = omega arith;
      members = counted;
      lacks = on_or (lacks w) id a.lacks note.lacks;
      delegate = on_or (is_delegate w) id a.delegate note.delegate;
    }

  -- a circle
  module _ (id : DefId) (ids : List DefId) (leads : Leads (parent w) (Some id) (id ∷ ids)) where
    round_on : (p : DefId → Bool) → IsTrue (list_any p (id ∷ ids)) ↔ OnChain (parent w) p id
    round_on p = (on_path (parent w) p (Some id) id ids leads, stays (parent w) id ids leads p)

    many : (n : ℕ) → n ≤ 64 → nat_le 65 n ≡ false
    many n h = elim (leb_tells 65 n) [ inl t ↦ absurd (omega (arith, t.1, h)) | inr f ↦ f.0 ]

    round_is : IsNote w (Some id) (round_note w (id ∷ ids))
    round_is = record {
      few = omega arith;
      members = λ n h. endless (parent w) id ids leads n ∙ sym (many n h);
      lacks = round_on (lacks w);
      delegate = round_on (is_delegate w);
    }

  pub circle_is : (path : List DefId) (id : DefId) (place : ℕ) → Leads (parent w) (Some id) path → slice_get path place ≡ Some id → IsNote w (Some id) (round_note w (drop place path))
  circle_is path id place leads at =
      let row = drop_at path place id at in
      let rest : Leads (parent w) (Some id) (id ∷ drop (suc place) path) = subst (Leads (parent w) (Some id)) row (leads_drop (parent w) (Some id) place path leads) in
      subst (λ ids. IsNote w (Some id) (round_note w ids)) (sym row) (round_is id (drop (suc place) path) rest)

  -- a number that no definition has
  pub lone_is : (id : DefId) → length w.defs ≤ id.0 → IsNote w (Some id) lone
  lone_is id past =
      let none : slice_get w.defs id.0 ≡ None = slice_get_past w.defs id.0 past in
      let ends : parent w id ≡ None = ap (λ o. head_of (parent_of o)) none in
      let lacks_none : lacks w id ≡ false = ap (λ o. option_map_or (lacks_a_type w) o false) none in
      let no_delegate : is_delegate w id ≡ false = ap (λ o. id.0 == 32 && option_map_or (λ (d : Def). d.file == 0) o false) none ∙ and-false (id.0 == 32) in
      let base : IsNote w (parent w id) (record { members = 0; lacks = false; delegate = false }) = subst (λ o. IsNote w o (record { members = 0; lacks = false; delegate = false })) (sym ends) no_chain_note in
      let made = note_below id (record { members = 0; lacks = false; delegate = false }) base in
      subst (λ b. IsNote w (Some id) (record { members = 1; lacks = false; delegate = b || false })) no_delegate
      (subst (λ b. IsNote w (Some id) (record { members = 1; lacks = b || false; delegate = is_delegate w id || false })) lacks_none made)

  -- ---- marks

  module _ (marks : List Mark) (path : List DefId) (was : IsMarked w marks path) where
    pub known_is : (id : DefId) (a : Note) → mark_at marks id.0 ≡ Known a → IsNote w (Some id) a
    known_is id a e = go (slice_get marks id.0) refl e
      where
        go : (o : Option Mark) → slice_get marks id.0 ≡ o → elim o [ Some m ↦ m | None ↦ Known lone ] ≡ Known a → IsNote w (Some id) a
        go (Some m) at h = let same : slice_get marks id.0 ≡ Some (Known a) = cc in was.known id a same
        go None at h = let same : lone ≡ a = cc in subst (IsNote w (Some id)) same (lone_is id (outside (cases_lt id.0 (length marks))))
          where
            outside : (id.0 < length marks) ⊎ (length marks ≤ id.0) → length w.defs ≤ id.0
            outside (inl inside) = let there : slice_get marks id.0 ≡ Some (get_or marks id.0 Unknown) = slice_get-get_or marks id.0 Unknown inside in absurd (cc)
            outside (inr past) = omega (arith, past, was.as_many)

    pub on_path_is : (id : DefId) → mark_at marks id.0 ≡ OnPath → is_on id path ≡ true
    on_path_is id e = go (slice_get marks id.0) refl e
      where
        go : (o : Option Mark) → slice_get marks id.0 ≡ o → elim o [ Some m ↦ m | None ↦ Known lone ] ≡ OnPath → is_on id path ≡ true
        go (Some m) at h = let same : slice_get marks id.0 ≡ Some OnPath = cc in was.on_path id same
        go None at h = absurd (cc)

    pub unknown_is : (id : DefId) → mark_at marks id.0 ≡ Unknown → slice_get marks id.0 ≡ Some Unknown
    unknown_is id e = go (slice_get marks id.0) refl e
      where
        go : (o : Option Mark) → slice_get marks id.0 ≡ o → elim o [ Some m ↦ m | None ↦ Known lone ] ≡ Unknown → slice_get marks id.0 ≡ Some Unknown
        go (Some m) at h = cc
        go None at h = absurd (cc)

    -- one more on the path
    pub entered : (id : DefId) → slice_get marks id.0 ≡ Some Unknown → IsMarked w (set marks id.0 OnPath) (path ++ id ∷ [])
    entered id at = record {
      as_many = length-set marks id.0 OnPath ∙ was.as_many;
      known = λ x a e. elim (eqb_tells x.0 id.0) [
        | inl same ↦ let clash : Some (Known a) ≡ Some OnPath = sym e ∙ ap (slice_get (set marks id.0 OnPath)) same.1 ∙ set_same marks id.0 OnPath Unknown at in absurd (cc)
        | inr other ↦ was.known x a (sym (set_other marks id.0 x.0 OnPath other.1) ∙ e)
      ];
      on_path = λ x e. list_any-append (λ d. nat_eq d.0 x.0) path (id ∷ []) ∙ elim (eqb_tells id.0 x.0) [
        | inl same ↦ ap (λ b. is_on x path || (b || false)) same.0 ∙ or-true (is_on x path)
        | inr other ↦ ap (λ b. b || (nat_eq id.0 x.0 || false)) (was.on_path x (sym (set_other marks id.0 x.0 OnPath (λ r. other.1 (sym r))) ∙ e))
      ];
      exist =
          let inside : id.0 < length w.defs = omega (arith, slice_get_within marks id.0 Unknown at, was.as_many) in
          list_all-append (λ d. nat_lt d.0 (length w.defs)) path (id ∷ []) ∙ ap₂ (λ a b. a && (b && true)) was.exist (lt-ltb id.0 (length w.defs) inside);
    }

  -- the last of the path is known
  pub last_exists : (marks : List Mark) (path xs : List DefId) (id : DefId) → path ≡ xs ++ id ∷ [] → IsMarked w marks path → id.0 < length marks
  last_exists marks path xs id is was =
      let all : (list_all (λ d. nat_lt d.0 (length w.defs)) xs && (nat_lt id.0 (length w.defs) && true)) ≡ true = sym (list_all-append (λ d. nat_lt d.0 (length w.defs)) xs (id ∷ [])) ∙ ap (list_all (λ d. nat_lt d.0 (length w.defs))) (sym is) ∙ was.exist in
      let here : id.0 < length w.defs = ltb-true id.0 (length w.defs) (and_parts (nat_lt id.0 (length w.defs)) true (and_parts (list_all (λ d. nat_lt d.0 (length w.defs)) xs) (nat_lt id.0 (length w.defs) && true) all).1).0 in
      omega (arith, here, was.as_many)

  pub left : (marks : List Mark) (path xs : List DefId) (id : DefId) (a : Note) → path ≡ xs ++ id ∷ [] → IsMarked w marks path → IsNote w (Some id) a → IsMarked w (set marks id.0 (Known a)) xs
  left marks path xs id a is was note = record {
    as_many = length-set marks id.0 (Known a) ∙ was.as_many;
    known = λ x b e. elim (eqb_tells x.0 id.0) [
      | inl same ↦
          let both : Some (Known a) ≡ Some (Known b) = sym (set_at marks id.0 (Known a) (last_exists marks path xs id is was)) ∙ ap (slice_get (set marks id.0 (Known a))) (sym same.1) ∙ e in
          let notes : a ≡ b = cc in
          let ids : id ≡ x = ap (λ n. record { 0 = n }) (sym same.1) in
          subst (λ y. IsNote w (Some y) b) ids (subst (IsNote w (Some id)) notes note)
      | inr other ↦ was.known x b (sym (set_other marks id.0 x.0 (Known a) other.1) ∙ e)
    ];
    on_path = λ x e. elim (eqb_tells x.0 id.0) [
      | inl same ↦
          let clash : Some (Known a) ≡ Some OnPath = sym (set_at marks id.0 (Known a) (last_exists marks path xs id is was)) ∙ ap (slice_get (set marks id.0 (Known a))) (sym same.1) ∙ e in
          absurd (cc)
      | inr other ↦
          let before = was.on_path x (sym (set_other marks id.0 x.0 (Known a) other.1) ∙ e) in
          let parts : (is_on x xs || (nat_eq id.0 x.0 || false)) ≡ true = sym (list_any-append (λ d. nat_eq d.0 x.0) xs (id ∷ [])) ∙ ap (is_on x) (sym is) ∙ before in
          let not_it : nat_eq id.0 x.0 ≡ false = elim (eqb_tells id.0 x.0) [ inl s ↦ absurd (other.1 (sym s.1)) | inr o ↦ o.0 ] in
          sym (or-false (is_on x xs)) ∙ ap (λ b. is_on x xs || (b || false)) (sym not_it) ∙ parts
    ];
    exist = (and_parts (list_all (λ d. nat_lt d.0 (length w.defs)) xs) (nat_lt id.0 (length w.defs) && true) (sym (list_all-append (λ d. nat_lt d.0 (length w.defs)) xs (id ∷ [])) ∙ ap (list_all (λ d. nat_lt d.0 (length w.defs))) (sym is) ∙ was.exist)).0;
  }

  -- ---- paths

  -- the note of what goes on behind the last of a path
  pub last_above : (path xs : List DefId) (id from : DefId) (a : Note) → path ≡ xs ++ id ∷ [] → Climbed w path from a → IsNote w (parent w id) a
  last_above path xs id from a is c =
      let s = shorter (parent w) c.top xs id (subst (Leads (parent w) c.top) is c.leads) in
      subst (λ o. IsNote w o a) (sym s.0) c.note

  pub climbed_back : (path xs : List DefId) (id from : DefId) (a b : Note) → path ≡ xs ++ id ∷ [] → Climbed w path from a → IsNote w (Some id) b → Climbed w xs from b
  climbed_back path xs id from a b is c note =
      let s = shorter (parent w) c.top xs id (subst (Leads (parent w) c.top) is c.leads) in
      record {
        top = Some id;
        leads = s.1;
        first = sym (first_last xs id c.top) ∙ ap (λ l. first_or l c.top) (sym is) ∙ c.first;
        note = note;
      }

  -- a path that is walked to its begin
  pub climbed_done : (path : List DefId) (from : DefId) (a : Note) → path ≡ [] → Climbed w path from a → IsNote w (Some from) a
  climbed_done path from a is c =
      let top : c.top ≡ Some from = sym (ap (λ l. first_or l c.top) is) ∙ c.first in
      subst (λ o. IsNote w o a) top c.note
