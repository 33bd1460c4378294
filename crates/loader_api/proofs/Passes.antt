-- Calls after calls.
use Rattle.std.proofs.Common.{◌≡◌, List, [], ◌∷◌, ◌++◌, refl, ap, sym, ◌∙◌, append_assoc, append-nil}
use mathlib.Core.List.{IsPrefix}
use Rattle.loader_api.specs.declared.view.PassView.{PassView}
use Rattle.loader_api.specs.Calls.{Keeps, Moves, Quiet}

pub prefix_self : {A : Type 0} (xs : List A) → IsPrefix xs xs
prefix_self xs = ([], append-nil xs)

pub prefix_on : {A : Type 0} (xs ys zs : List A) → IsPrefix xs ys → IsPrefix ys zs → IsPrefix xs zs
prefix_on xs ys zs p q = (p.0 ++ q.0, sym (append_assoc xs p.0 q.0) ∙ (ap (λ w. w ++ q.0) p.1 ∙ q.1))

pub keeps_self : (v : PassView) → Keeps v v
keeps_self v = record { number = refl; kept = refl; drawn = refl; lost = refl; front = prefix_self v.front }

pub keeps_on : (u v w : PassView) → Keeps u v → Keeps v w → Keeps u w
keeps_on u v w a b = record {
  number = b.number ∙ a.number;
  kept = b.kept ∙ a.kept;
  drawn = b.drawn ∙ a.drawn;
  lost = b.lost ∙ a.lost;
  front = prefix_on u.front v.front w.front a.front b.front;
}

module _ {P : Type 0} (is_of : P → Type 0) (grows : P → P → Type 0) (view : P → PassView) where
  pub quiet_self : ((p : P) → grows p p) → (p : P) → is_of p → Quiet is_of grows view p p
  quiet_self same p of = record { moves = record { of = of; on = same p; keeps = keeps_self (view p) }; silent = refl }

  pub moves_on : ((p q r : P) → grows p q → grows q r → grows p r) → (p q r : P) → Moves is_of grows view p q → Moves is_of grows view q r → Moves is_of grows view p r
  moves_on on p q r a b = record { of = b.of; on = on p q r a.on b.on; keeps = keeps_on (view p) (view q) (view r) a.keeps b.keeps }

  pub quiet_on : ((p q r : P) → grows p q → grows q r → grows p r) → (p q r : P) → Quiet is_of grows view p q → Quiet is_of grows view q r → Quiet is_of grows view p r
  quiet_on on p q r a b = record { moves = moves_on on p q r a.moves b.moves; silent = b.silent ∙ a.silent }
