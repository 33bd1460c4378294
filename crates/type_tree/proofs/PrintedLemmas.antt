-- Printed texts, and the grammar.
use Rattle.std.proofs.Common.{◌≡◌, ◌↔◌, ◌≤◌, ℕ, eqb-true, eq-eqb, Bool, ◌&&◌, IsTrue, List, [], ◌∷◌, ◌++◌, codes, map, Option, Some, None, refl, ap, ap₂, ◌∙◌, sym, subst, append_assoc}
use Rattle.std.proofs.lemmas.Bool.{and_parts}
use Rattle.std.specs.List.{list_all, flat_map}
use Rattle.clr_base.specs.declared.ids.DefId.{DefId}
use Rattle.type_tree.specs.declared.tree.Ty.{Ty}
use Rattle.type_tree.specs.declared.tree.Ty.TheVariants as ty
use Rattle.type_tree.specs.World.{Facts}
use Rattle.type_tree.specs.Lookup.{first_named, full_name}
use Rattle.type_tree.specs.Measure.{depth}
use Rattle.type_tree.specs.Texts.{bracketed, type_text}
use Rattle.type_tree.specs.ReadTexts.{is_name, is_that, names_itself, readable_step, is_readable, Names, NamesArguments, NamesMore, Reads}
use Rattle.type_tree.specs.ReadTexts as texts
use Rattle.type_tree.proofs.Folds.{Known, trees, by_variants, fold-Inst, fold-Array, fold-ByRef, fold-Ptr, fold-Var, fold-MVar, fold-Missing, fold-Odd}
use Rattle.type_tree.proofs.TextLemmas.{text-Inst, text-Array}
use Rattle.type_tree.proofs.GrammarLemmas.{names_one}
use Rattle.type_tree.proofs.LookupLemmas.{first_named-name}

module _ (w : Facts) where
  found_by_name : (d : DefId) (o : Option DefId) → IsTrue (is_that d o) → o ≡ Some d
  found_by_name d None h = absurd (cc)
  found_by_name d (Some e) h = let same : e.0 ≡ d.0 = eqb-true e.0 d.0 h in λ i. Some (record { 0 = same i })

  finds_itself : (d : DefId) (o : Option DefId) → o ≡ Some d → IsTrue (is_that d o)
  finds_itself d o e = subst (λ p. IsTrue (is_that d p)) (sym e) (eq-eqb d.0 d.0 refl)

  abbrev Printed : Ty → Type 0
  Printed t = IsTrue (is_readable w t) → Names w (type_text w t) t

  tail_text : List Ty → List ℕ
  tail_text ts = flat_map (λ t. codes "," ++ t) (map (type_text w) ts)

  more_printed : (ps : List (Known Printed)) → IsTrue (list_all (λ p. p) (map (is_readable w) (trees Printed ps))) → NamesMore w (tail_text (trees Printed ps)) (trees Printed ps)
  unfolding tail_text
  more_printed [] h = texts.no_more
  more_printed (p ∷ ps) h =
      let both = and_parts (is_readable w p.0) (list_all (λ b. b) (map (is_readable w) (trees Printed ps))) h in
      subst (λ s. NamesMore w s (p.0 ∷ trees Printed ps)) (sym (append_assoc (codes ",") (type_text w p.0) (tail_text (trees Printed ps))))
      (texts.more (type_text w p.0) (tail_text (trees Printed ps)) p.0 (trees Printed ps) (p.1 both.0) (more_printed ps both.1))

  arguments_printed : (ps : List (Known Printed)) → IsTrue (list_all (λ p. p) (map (is_readable w) (trees Printed ps))) → NamesArguments w (bracketed (map (type_text w) (trees Printed ps))) (trees Printed ps)
  unfolding tail_text
  arguments_printed [] h = texts.none
  arguments_printed (p ∷ ps) h =
      let both = and_parts (is_readable w p.0) (list_all (λ b. b) (map (is_readable w) (trees Printed ps))) h in
      let more = more_printed ps both.1 in
      subst (λ s. NamesArguments w (codes "[" ++ s) (p.0 ∷ trees Printed ps)) (sym (append_assoc (type_text w p.0) (tail_text (trees Printed ps)) (codes "]")))
      (texts.some (type_text w p.0) (tail_text (trees Printed ps)) p.0 (trees Printed ps) (p.1 both.0) more)

  inst_printed : (d : DefId) (ps : List (Known Printed)) → Printed (ty.Inst d (trees Printed ps))
  inst_printed d ps h =
      let ts = trees Printed ps in
      let free : IsTrue (names_itself w d && list_all (λ p. p) (map (is_readable w) ts)) = sym (fold-Inst Bool (readable_step w) d ts) ∙ h in
      let both = and_parts (names_itself w d) (list_all (λ p. p) (map (is_readable w) ts)) free in
      let own = and_parts (is_name (full_name w d)) (is_that d (first_named w (full_name w d))) both.0 in
      subst (λ s. Names w s (ty.Inst d ts)) (sym (text-Inst w d ts))
      (texts.definition (full_name w d) (bracketed (map (type_text w) ts)) d ts own.0 (found_by_name d (first_named w (full_name w d)) own.1) (arguments_printed ps both.1))

  pub printed : (t : Ty) → Printed t
  printed = by_variants Printed (record {
    inst = inst_printed;
    array = λ t ih h. subst (λ s. Names w s (ty.Array t)) (sym (text-Array w t)) (texts.array (type_text w t) t (ih (sym (fold-Array Bool (readable_step w) t) ∙ h)));
    by_ref = λ t ih h. absurd (let off = sym (fold-ByRef Bool (readable_step w) t) ∙ h in cc);
    ptr = λ t ih h. absurd (let off = sym (fold-Ptr Bool (readable_step w) t) ∙ h in cc);
    var = λ n h. absurd (let off = sym (fold-Var Bool (readable_step w) n) ∙ h in cc);
    mvar = λ n h. absurd (let off = sym (fold-MVar Bool (readable_step w) n) ∙ h in cc);
    missing = λ name value h. absurd (let off = sym (fold-Missing Bool (readable_step w) name value) ∙ h in cc);
    odd = λ code h. absurd (let off = sym (fold-Odd Bool (readable_step w) code) ∙ h in cc);
  })

module _ (w : Facts) where
  mutual
    pub names_printed : {text : List ℕ} {t : Ty} → Names w text t → (type_text w t ≡ text) × IsTrue (is_readable w t)
    names_printed (texts.definition name args d ts is named a) =
        let rest = arguments_are_printed a in
        let own : full_name w d ≡ name = first_named-name w name d named in
        let found : IsTrue (is_that d (first_named w (full_name w d))) = finds_itself w d (first_named w (full_name w d)) (ap (first_named w) own ∙ named) in
        let plain : IsTrue (is_name (full_name w d)) = ap is_name own ∙ is in
        (text-Inst w d ts ∙ ap₂ ◌++◌ own rest.0, fold-Inst Bool (readable_step w) d ts ∙ ap₂ ◌&&◌ (ap₂ ◌&&◌ plain found) rest.1)
    names_printed (texts.array text t h) =
        let inner = names_printed h in
        (text-Array w t ∙ ap (λ s. s ++ codes "[]") inner.0, fold-Array Bool (readable_step w) t ∙ inner.1)

    arguments_are_printed : {args : List ℕ} {ts : List Ty} → NamesArguments w args ts → (bracketed (map (type_text w) ts) ≡ args) × IsTrue (list_all (λ p. p) (map (is_readable w) ts))
    arguments_are_printed texts.none = (refl, refl)
    arguments_are_printed (texts.some text others t ts h hs) =
        let first = names_printed h in
        let rest = more_are_printed hs in (
          ap (λ s. codes "[" ++ s) (append_assoc (type_text w t) (flat_map (λ u. codes "," ++ u) (map (type_text w) ts)) (codes "]") ∙ ap₂ (λ a b. a ++ (b ++ codes "]")) first.0 rest.0),
          ap₂ ◌&&◌ first.1 rest.1,
        )

    more_are_printed : {others : List ℕ} {ts : List Ty} → NamesMore w others ts → (flat_map (λ u. codes "," ++ u) (map (type_text w) ts) ≡ others) × IsTrue (list_all (λ p. p) (map (is_readable w) ts))
    more_are_printed texts.no_more = (refl, refl)
    more_are_printed (texts.more text others t ts h hs) =
        let first = names_printed h in
        let rest = more_are_printed hs in
        (append_assoc (codes ",") (type_text w t) (flat_map (λ u. codes "," ++ u) (map (type_text w) ts)) ∙ ap (λ s. codes "," ++ s) (ap₂ ◌++◌ first.0 rest.0), ap₂ ◌&&◌ first.1 rest.1)

  pub names_iff : (t : Ty) (text : List ℕ) → Names w text t ↔ ((type_text w t ≡ text) × IsTrue (is_readable w t))
  names_iff t text = ((λ h. names_printed h), (λ p. subst (λ s. Names w s t) p.0 (printed w t p.1)))

  pub read_back : (t u : Ty) → IsTrue (is_readable w t) → depth t ≤ 64 → Reads w (type_text w t) u ↔ (u ≡ t)
  read_back t u h low = (
    (λ r. names_one w (type_text w t) u t r.names (printed w t h)),
    (λ e. subst (λ v. Reads w (type_text w t) v) (sym e) (record { names = printed w t h; shallow = low })),
  )
