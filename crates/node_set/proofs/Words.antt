-- Distinct nodes have distinct words.
use Rattle.std.proofs.Common.{◌≡◌, ℕ, ◌<◌, [], ◌∷◌, get_or, sym, refl, ◌∙◌, arith}
use Rattle.node_set.specs.Nodes.{packed, tag_of, first_of, second_of, word_of, IsNode}
use Rattle.node_set.specs.declared.node.Node.{Node}
use Rattle.node_set.specs.declared.node.Node.TheVariants.{Head, Argument, Array, Method, Row, LayoutSegment, DictionarySegment}

pub tag_small : (n : Node) → tag_of n < 16
tag_small (Head d) = omega arith
tag_small (Argument k x) = omega arith
tag_small (Array e) = omega arith
tag_small (Method m o) = omega arith
tag_small (Row k r) = omega arith
tag_small (LayoutSegment c s) = omega arith
tag_small (DictionarySegment x s) = omega arith

-- the node of a tag and two numbers
node_of : ℕ → ℕ → ℕ → Node
node_of t a b = get_or
    (Head (record { 0 = a }) ∷ Head (record { 0 = a }) ∷ Argument (record { 0 = a }) (record { 0 = b }) ∷ Array (record { 0 = a }) ∷ Method (record { 0 = a }) (record { 0 = b })
    ∷ Row (record { 0 = a }) b ∷ LayoutSegment (record { 0 = a }) b ∷ DictionarySegment (record { 0 = a }) b ∷ []) t (Head (record { 0 = a }))

node_of_parts : (n : Node) → node_of (tag_of n) (first_of n) (second_of n) ≡ n
unfolding node_of
node_of_parts (Head d) = refl
node_of_parts (Argument k x) = refl
node_of_parts (Array e) = refl
node_of_parts (Method m o) = refl
node_of_parts (Row k r) = refl
node_of_parts (LayoutSegment c s) = refl
node_of_parts (DictionarySegment x s) = refl

unpacked : (t a b u c d : ℕ) → t < 16 → u < 16 → a < 16777216 → c < 16777216 → packed t a b ≡ packed u c d → (t ≡ u) × (a ≡ c) × (b ≡ d)
unpacked t a b u c d ht hu ha hc e = let same : t ≡ u = omega arith in let first : a ≡ c = omega arith in let second : b ≡ d = omega arith in (same, first, second)

pub same_node : (n m : Node) → IsNode n → IsNode m → word_of n ≡ word_of m → n ≡ m
same_node n m hn hm e =
    let p = unpacked (tag_of n) (first_of n) (second_of n) (tag_of m) (first_of m) (second_of m) (tag_small n) (tag_small m) hn.0 hm.0 e in
    sym (node_of_parts n) ∙ ((λ i. node_of (p.0 i) (p.1 i) (p.2 i)) ∙ node_of_parts m)
