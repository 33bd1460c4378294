-- Choices that were found.
use Rattle.std.proofs.Common.{◌≡◌, ◌||◌, ℕ, ◌+◌, ◌++◌, List, [], ◌∷◌, map, refl, ap, ap₂, ◌∙◌, sym}
use Rattle.std.proofs.lemmas.List.FromFn.{map-range_with_len_more}
use Rattle.std.specs.List.{list_any, range_with_len}
use Rattle.type_tree.specs.declared.tree.Ty.{Ty}
use Rattle.interface_maps.specs.declared.answers.Interface.{Interface}
use Rattle.interface_maps.specs.Choices.{Answered, is_open, lacks}
use Rattle.interface_maps.specs.Found.{AreFound}

-- nothing answers a method where that was found
pub found-lacks : (ts : List Ty) (fs : List Interface) (all : List Answered) → AreFound ts fs all → list_any (λ (f : Interface). list_any is_open f.choices) fs ≡ list_any lacks all
found-lacks ts [] [] h = refl
found-lacks ts [] (a ∷ rest) h = absurd h
found-lacks ts (f ∷ fs) [] h = absurd h
found-lacks ts (f ∷ fs) (a ∷ rest) h = ap₂ ◌||◌ (ap (list_any is_open) h.0.choices) (found-lacks ts fs rest h.1)

map_same : (xs : List ℕ) → map (λ x. x) xs ≡ xs
map_same [] = refl
map_same (x ∷ xs) = ap (λ l. x ∷ l) (map_same xs)

pub range_more : (a n : ℕ) → range_with_len a (n + 1) ≡ range_with_len a n ++ (a + n) ∷ []
range_more a n = sym (map_same (range_with_len a (n + 1))) ∙ map-range_with_len_more (λ x. x) a n (a + n) refl ∙ ap (λ l. l ++ (a + n) ∷ []) (map_same (range_with_len a n))
