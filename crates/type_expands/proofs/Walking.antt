-- Lists that loops over trees and definitions make.
use Rattle.std.proofs.Common.{◌≡◌, ℕ, suc, ◌+◌, ◌<◌, List, [], ◌∷◌, ◌++◌, length, map, flat_map, take, drop, get_or, slice_get, Some, refl, ap, ◌∙◌, sym, arith, append_assoc, append-nil}
use Rattle.std.proofs.Math.Seq.{drop-cons}
use Rattle.std.proofs.lemmas.List.{take_more}
use Rattle.std.proofs.lemmas.Grind.{flat_map-append}
use Rattle.std.proofs.lemmas.List.{map-append}
use Rattle.std.proofs.lemmas.Option.{slice_get_within, get_or_from_slice_get}
use Rattle.clr_base.specs.declared.ids.DefId.{DefId}
use Rattle.type_tree.specs.declared.tree.Ty.{Ty}
use Rattle.type_tree.specs.declared.tree.Ty.TheVariants as ty
use Rattle.type_tree.specs.declared.definition.Def.{Def}
use Rattle.type_tree.proofs.Folds.{fold-Inst}
use Rattle.type_expands.specs.declared.links.Link.{Link}
use Rattle.type_expands.specs.declared.formals.Span.{Span}
use Rattle.type_expands.specs.Links.{Found, found, found_step, all_links, links_to, argument_links, expanding_to}
use Rattle.type_expands.specs.Formals.{spans_from}

-- one more step of a loop that adds what f gives
pub flat_step : {A B : Type 0} (f : A → List B) (old : List B) (xs : List A) (i : ℕ) (d : A) → i < length xs → (old ++ flat_map f (take i xs)) ++ f (get_or xs i d) ≡ old ++ flat_map f (take (i + 1) xs)
flat_step f old xs i d lt =
    append_assoc old (flat_map f (take i xs)) (f (get_or xs i d))
    ∙ ap (λ l. old ++ l) (sym (ap (flat_map f) (take_more xs i d lt) ∙ flat_map-append f (take i xs) (get_or xs i d ∷ []) ∙ ap (λ l. flat_map f (take i xs) ++ l) (append-nil (f (get_or xs i d)))))

pub flat_of_map : {A B C : Type 0} (f : B → List C) (g : A → B) (xs : List A) → flat_map f (map g xs) ≡ flat_map (λ x. f (g x)) xs
flat_of_map f g [] = refl
flat_of_map f g (x ∷ xs) = ap (λ l. f (g x) ++ l) (flat_of_map f g xs)

pub map_of_flat : {A B C : Type 0} (e : B → C) (f : A → List B) (xs : List A) → map e (flat_map f xs) ≡ flat_map (λ x. map e (f x)) xs
map_of_flat e f [] = refl
map_of_flat e f (x ∷ xs) = map-append e (f x) (flat_map f xs) ∙ ap (λ l. map e (f x) ++ l) (map_of_flat e f xs)

-- the links of an instantiation's arguments, one after the other
pub arguments_step : (d : DefId) (old : List Link) (ts : List Ty) (i : ℕ) (t : Ty) → i < length ts
    → (old ++ links_to d i (found (get_or ts i t))) ++ argument_links d (i + 1) (map found (drop (i + 1) ts)) ≡ old ++ argument_links d i (map found (drop i ts))
arguments_step d old ts i t lt =
    append_assoc old (links_to d i (found (get_or ts i t))) (argument_links d (i + 1) (map found (drop (i + 1) ts)))
    ∙ ap (λ l. old ++ l) (ap (λ k. links_to d i (found (get_or ts i t)) ++ argument_links d (i + 1) (map found (drop k ts))) (let e : i + 1 ≡ suc i = omega arith in e) ∙ sym (ap (λ l. argument_links d i (map found l)) (drop-cons ts i t lt)))

-- the spans of all definitions, one after the other
pub spans_step : (ss : List Span) (total : ℕ) (ds : List Def) (n : ℕ) (d : Def) → slice_get ds n ≡ Some d
    → (ss ++ record { first = total; count = length d.formals } ∷ []) ++ spans_from (total + length d.formals) (drop (n + 1) ds) ≡ ss ++ spans_from total (drop n ds)
spans_step ss total ds n d is =
    let lt = slice_get_within ds n d is in
    let here = get_or_from_slice_get ds n d d is in
    append_assoc ss (record { first = total; count = length d.formals } ∷ []) (spans_from (total + length d.formals) (drop (n + 1) ds))
    ∙ ap (λ l. ss ++ l) (ap (λ k. spans_from total (d ∷ drop k ds)) (let e : n + 1 ≡ suc n = omega arith in e) ∙ ap (λ e. spans_from total (e ∷ drop (suc n) ds)) (sym here) ∙ sym (ap (spans_from total) (drop-cons ds n d lt)))

-- what stands in an instantiation
pub inst_variables : (to : DefId) (place : ℕ) (d : DefId) (ts : List Ty) → map (expanding_to to place) (found (ty.Inst d ts)).variables ≡ flat_map (λ t. map (expanding_to to place) (found t).variables) ts
inst_variables to place d ts =
    ap (map (expanding_to to place)) (ap (λ f. f.variables) (fold-Inst Found found_step d ts) ∙ flat_of_map (λ f. f.variables) found ts)
    ∙ map_of_flat (expanding_to to place) (λ t. (found t).variables) ts

pub inst_links : (d : DefId) (ts : List Ty) → (found (ty.Inst d ts)).links ≡ argument_links d 0 (map found ts) ++ all_links ts
inst_links d ts = ap (λ f. f.links) (fold-Inst Found found_step d ts) ∙ ap (λ l. argument_links d 0 (map found ts) ++ l) (flat_of_map (λ f. f.links) found ts)
