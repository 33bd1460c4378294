-- Rows of edges, to which links are added.
use Rattle.std.proofs.Common.{◌≡◌, ℕ, ◌+◌, ◌<◌, nat_eq, false, List, [], ◌∷◌, ◌++◌, length, take, replicate, get_or, Some, None, inl, inr, refl, ap, ◌∙◌, sym, arith, append-nil, append_assoc, eq-eqb, get_or-set_same, get_or-set_other, length-set, ne_eqb}
use Rattle.std.proofs.lemmas.Bool.{cases_eq}
use Rattle.std.proofs.lemmas.List.{take_more, ext_get_or, length-replicate, get_or-replicate}
use Rattle.std.proofs.lemmas.List.Elements.{filter_map-append}
use Rattle.std.proofs.lemmas.List.FromFn.{get_or-map-range_with_len, length-map-range_with_len}
use Rattle.closed_walks.specs.declared.graph.Edge.{Edge}
use Rattle.type_tree.specs.declared.definition.Def.{Def}
use Rattle.type_expands.specs.declared.links.Link.{Link}
use Rattle.type_expands.specs.declared.formals.Span.{Span}
use Rattle.type_expands.specs.Links.{def_links}
use Rattle.type_expands.specs.Formals.{edge_of, edge_to, node_at, row, rows, IsPushed, IsAdded}

-- no link
pub none_added : (ss : List Span) (rs : List (List Edge)) → IsAdded ss rs [] rs
none_added ss rs = record { as_long = refl; each = λ x lt. sym (append-nil (get_or rs x [])) }

-- one link more
pub more_added : (ss : List Span) (ls : List Link) (i : ℕ) (d : Link) (first old new : List (List Edge)) → i < length ls → IsAdded ss first (take i ls) old → IsAdded ss old (get_or ls i d ∷ []) new → IsAdded ss first (take (i + 1) ls) new
more_added ss ls i d first old new lt before a =
    let long = before.as_long in
    record {
      as_long = a.as_long ∙ before.as_long;
      each = λ x below.
          a.each x (omega arith) ∙ ap (λ l. l ++ row ss (get_or ls i d ∷ []) x) (before.each x below)
          ∙ append_assoc (get_or first x []) (row ss (take i ls) x) (row ss (get_or ls i d ∷ []) x)
          ∙ ap (λ l. get_or first x [] ++ l) (sym (ap (λ l. row ss l x) (take_more ls i d lt) ∙ filter_map-append (edge_of ss x) (take i ls) (get_or ls i d ∷ [])));
    }

-- the rows of a definition
pub rows_are : (ss : List Span) (d : Def) (old rs : List (List Edge)) → old ≡ replicate (length d.formals) [] → IsAdded ss old (def_links d) rs → rs ≡ rows ss d
rows_are ss d old rs empty are =
    let count = length d.formals in
    let f = row ss (def_links d) in
    let e = ap length empty ∙ length-replicate count [] in
    let long : length rs ≡ length d.formals = are.as_long ∙ e in
    ext_get_or [] rs (rows ss d) (long ∙ sym (length-map-range_with_len f 0 count)) (λ x lt.
    let below : x < length d.formals = omega arith in
    are.each x (omega arith) ∙ ap (λ l. l ++ f x) (ap (λ l. get_or l x []) empty ∙ get_or-replicate count x [] [] below) ∙ sym (get_or-map-range_with_len f 0 count x x [] below (omega arith)))

-- a link from no parameter of the definition adds nothing
pub added_none : (ss : List Span) (rs : List (List Edge)) (l : Link) → length rs < l.from + 1 → IsAdded ss rs (l ∷ []) rs
added_none ss rs l past = record {
  as_long = refl;
  each = λ x lt. sym (ap (λ r. get_or rs x [] ++ r) (nothing x (ne_eqb l.from x (omega arith))) ∙ append-nil (get_or rs x []));
}
  where
    nothing : (x : ℕ) → nat_eq l.from x ≡ false → row ss (l ∷ []) x ≡ []
    nothing x e = rw e

-- a link to no parameter adds nothing
pub added_nowhere : (ss : List Span) (rs : List (List Edge)) (l : Link) → node_at ss l.to l.place ≡ None → IsAdded ss rs (l ∷ []) rs
added_nowhere ss rs l none = record {
  as_long = refl;
  each = λ x lt. sym (ap (λ r. get_or rs x [] ++ r) (nothing x) ∙ append-nil (get_or rs x []));
}
  where
    nothing : (x : ℕ) → row ss (l ∷ []) x ≡ []
    nothing x = elim (cases_eq l.from x) [
      | inl e ↦ rw (eq-eqb l.from x e, none)
      | inr other ↦ rw (ne_eqb l.from x other)
    ]

-- a link of two parameters adds its edge
pub added_edge : (ss : List Span) (rs new : List (List Edge)) (l : Link) (n : ℕ) → l.from < length rs → node_at ss l.to l.place ≡ Some n → IsPushed rs l.from (edge_to l.expanding n) new → IsAdded ss rs (l ∷ []) new
added_edge ss rs new l n inside is pushed = record {
  as_long = ap length pushed ∙ length-set rs l.from (get_or rs l.from [] ++ edge_to l.expanding n ∷ []);
  each = λ x lt. ap (λ r. get_or r x []) pushed ∙ (elim (cases_eq l.from x) [
    | inl e ↦ rw (← e) (get_or-set_same rs l.from (get_or rs l.from [] ++ edge_to l.expanding n ∷ []) [] inside ∙ sym (here l.from refl))
    | inr other ↦ get_or-set_other rs l.from x (get_or rs l.from [] ++ edge_to l.expanding n ∷ []) [] (λ e. other (sym e)) ∙ sym (ap (λ r. get_or rs x [] ++ r) (elsewhere x other) ∙ append-nil (get_or rs x []))
  ]);
}
  where
    here : (x : ℕ) → l.from ≡ x → get_or rs x [] ++ row ss (l ∷ []) x ≡ get_or rs x [] ++ edge_to l.expanding n ∷ []
    here x e = rw (eq-eqb l.from x e, is)

    elsewhere : (x : ℕ) → (l.from ≡ x → ⊥) → row ss (l ∷ []) x ≡ []
    elsewhere x other = rw (ne_eqb l.from x other)
