-- One node stands in at most one cell.
use Rattle.std.proofs.Common.{◌≡◌, ℕ, ◌+◌, ◌<◌, ◌≢◌, List, sym, refl, ap, ◌∙◌, subst, inl, arith, Some, get_or}
use mathlib.Core.Logic.{dite}
use native.Mathlib.Decide.{ℕ_discrete, dec_lt}
use Rattle.word_board.specs.Marks.{mark, Has, Within, Unset, Lawful}
use Rattle.word_board.specs.Views.{Vacant, Grown, number_of}
use Rattle.word_board.specs.Numbers.{name}
use Rattle.word_board.specs.declared.view.Mark.{Mark}
use Rattle.word_board.specs.declared.view.Name.{Name}
use Rattle.word_board.specs.declared.view.View.{View}
use Rattle.node_set.specs.Nodes.{word_of, IsNode}
use Rattle.node_set.specs.Keys.{Names, names_on}
use Rattle.node_set.specs.Probing.{probe, Before, InOrder, NodeRule, MayBut, InNoCell, Absent, OneCell}
use Rattle.node_set.specs.declared.node.Node.{Node}

-- a node that has its cells before it set to others does not stand in one of them
earlier : (cells : ℕ) (all : List Mark) → ((m n : Mark) → Has all m → Has all n → m.place ≡ n.place → m ≡ n) → (m n : Mark) → Has all m → m.word ≡ n.word → (i k : ℕ) → i < k → m.place ≡ probe cells m.word i → ¬ Before cells all n.word k
earlier cells all once m n there same i k low at before = let b = before i low in
    let place : m.place ≡ b.0.place = at ∙ (ap (λ (w : ℕ). probe cells w i) same ∙ sym b.2) in
    let is : m ≡ b.0 = once m b.0 there b.1 place in b.3 (ap (λ (x : Mark). x.word) (sym is) ∙ same)

pub one_cell : (may : List Mark → Mark → Type 0) (cells : ℕ) → ((all : List Mark) (m : Mark) → may all m → m.place < cells → InOrder cells all m) → (all : List Mark) → Lawful may all → OneCell cells all
one_cell may cells in_order all lawful m n hm hn lm ln same =
    let a = in_order all m (lawful.0 m hm) lm in let b = in_order all n (lawful.0 n hn) ln in
    dite (ℕ_discrete a.0 b.0)
    (λ e. lawful.1 m n hm hn (a.2 ∙ ((λ t. probe cells (same t) (e t)) ∙ sym b.2)))
    (λ ne. dite (dec_lt a.0 b.0)
    (λ low. absurd (earlier cells all lawful.1 m n hm same a.0 b.0 low a.2 b.3))
    (λ high. absurd (earlier cells all lawful.1 n m hn (sym same) b.0 a.0 (omega arith) b.2 a.3)))

-- where a cell that is probed is not set, and those before it are set to others, the node is in no cell
pub in_none : (may : List Mark → Mark → Type 0) (cells : ℕ) → ((all : List Mark) (m : Mark) → may all m → m.place < cells → InOrder cells all m)
    → (seen all : List Mark) (node k : ℕ) → Lawful may all → Within seen all → Unset all (probe cells node k) → Before cells seen node k → InNoCell cells all node
in_none may cells in_order seen all node k lawful within unset before m h low is =
    let a = in_order all m (lawful.0 m h) low in
    dite (ℕ_discrete a.0 k)
    (λ e. unset m h (a.2 ∙ (λ t. probe cells (is t) (e t))))
    (λ ne. dite (dec_lt a.0 k)
    (λ lower. let b = before a.0 lower in let x : m ≡ b.0 = lawful.1 m b.0 h (within b.0 b.1) (a.2 ∙ (ap (λ (w : ℕ). probe cells w a.0) is ∙ sym b.2)) in b.3 (ap (λ (y : Mark). y.word) (sym x) ∙ is))
    (λ higher. let b = a.3 k (omega arith) in unset b.0 b.1 (b.2 ∙ ap (λ (w : ℕ). probe cells w k) is)))

-- a node that names what it may meets the rule of nodes wherever the cells before it are set to others. So it may stand, those cells aside, where the page asks for no more
pub node_may : (may : List Mark → Mark → Type 0) (cells : ℕ) (seen : List Mark) (n : Node) (by : ℕ) → IsNode n → Names cells seen n
    → ((more : List Mark) (m : Mark) → Within seen more → m.place < cells → m.word ≡ word_of n → m.by ≡ by → NodeRule cells more m → may more m) → MayBut may cells seen (word_of n) by
node_may may cells seen n by is names can more k within low before =
    can more (mark (probe cells (word_of n) k) (word_of n) by) within (omega arith) refl refl ((n, refl, is, names_on cells seen more within n names), (k, low, refl, before))

-- one cell more was seen set to another
pub before_more : (cells : ℕ) (seen more : List Mark) (node k word by : ℕ) → Within seen more → Before cells seen node k → Has more (mark (probe cells node k) word by) → word ≢ node → Before cells more node (k + 1)
before_more cells seen more node k word by within before has ne i low = dite (dec_lt i k)
    (λ lower. let b = before i lower in (b.0, within b.0 b.1, b.2, b.3))
    (λ not-lower. let e : k ≡ i = omega arith in (mark (probe cells node k) word by, has, ap (probe cells node) e, ne))

-- each cell was seen set to another
pub all_before : (n cells k : ℕ) (seen : List Mark) (w word : ℕ) → n ≡ cells → k ≡ n → w ≡ word → Before n seen w k → Before cells seen word cells
all_before n cells k seen w word e whole same before = subst (λ (x : ℕ × ℕ × ℕ). Before x.0 seen x.1 x.2) (λ i. (e i, same i, (whole ∙ e) i)) before

module _ {P : Type 0} where
  pub may_settle : (may : List Mark → Mark → Type 0) (cells n node k place : ℕ) (v w : View P) → MayBut may cells v.seen node (number_of v) → n ≡ cells → Grown v w → k < n → Before n w.seen node k → place ≡ probe n node k
      → may w.seen (mark place node (number_of w))
  may_settle may cells n node k place v w ask e grown low before at =
      let number : number_of v ≡ number_of w = ap (λ (l : List Name). (get_or l 0 (name 0)).number) (sym grown.2) in
      subst (may w.seen) (λ i. mark ((ap (λ (c : ℕ). probe c node k) (sym e) ∙ sym at) i) node (number i)) (ask w.seen k grown.0 (subst (λ (c : ℕ). k < c) e low) (subst (λ (c : ℕ). Before c w.seen node k) e before))

  pub before_next : (n node k place word by : ℕ) (v w : View P) → Grown v w → Before n v.seen node k → Has w.seen (mark place word by) → place ≡ probe n node k → word ≢ node → Before n w.seen node (k + 1)
  before_next n node k place word by v w grown before has at ne = before_more n v.seen w.seen node k word by grown.0 before (subst (λ (p : ℕ). Has w.seen (mark p word by)) at has) ne

  pub absent_here : (may : P → List Mark → Mark → Type 0) (page : P) (cells n word k place : ℕ) → ((all : List Mark) (m : Mark) → may page all m → m.place < cells → InOrder cells all m) → (v w : View P) → v.page ≡ Some page → n ≡ cells
      → k < n → place ≡ probe n word k → Before n v.seen word k → w ≡ v → Vacant may v place → Absent (may page) cells w.seen word
  absent_here may page cells n word k place in_order v w paged e low at before same vacant =
      let here : place ≡ probe cells word k = at ∙ ap (λ (c : ℕ). probe c word k) e in
      let lawful = vacant.1.0 page paged in
      let unset = subst (Unset vacant.0) here vacant.2 in
      let before' = subst (λ (c : ℕ). Before c v.seen word k) e before in
      subst (λ (u : View P). Absent (may page) cells u.seen word) (sym same) (inl (
        vacant.0,
        lawful,
        vacant.1.1,
        in_none (may page) cells in_order v.seen vacant.0 word k lawful vacant.1.1 unset before',
        (k, subst (λ (c : ℕ). k < c) e low, before', unset),
      ))
