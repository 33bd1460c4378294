-- Names and signatures over a pool.
use Rattle.std.proofs.Common.{◌≡◌, List, length, map, ap, ◌∙◌, sym}
use Rattle.std.proofs.lemmas.Bool.{lt-ltb}
use Rattle.type_tree.specs.declared.tree.Ty.{Ty}
use Rattle.type_pool.specs.Trees.{EachOnce, Grows, Spells}
use Rattle.type_pool.specs.Jobs.{SpellAll}
use Rattle.type_pool.proofs.JobLemmas.{spells-grown}
use Rattle.type_pool.proofs.Levels.{all_found}
use Rattle.type_pool.proofs.Sound.{find, found}
use Rattle.method_slots.specs.declared.opens.OpenMethod.{OpenMethod}
use Rattle.method_slots.specs.Opens.{open_at, Open, IsOver, SpellsOpen}

-- equal ones over a pool have equal numbers
pub one_open : (ts : List Ty) → EachOnce ts → (a b : OpenMethod) → IsOver ts a → IsOver ts b → open_at ts a ≡ open_at ts b → a ≡ b
one_open ts once a b p q e =
    let find_it = find ts in
    let known = found ts once in
    let rets : a.ret ≡ b.ret =
    sym (known a.ret (lt-ltb a.ret.0 (length ts) p.ret)) ∙ ap (λ (o : Open). find_it o.ret) e ∙ known b.ret (lt-ltb b.ret.0 (length ts) q.ret) in
    let params : a.params ≡ b.params =
    sym (all_found ts find_it known a.params p.params) ∙ ap (λ (o : Open). map find_it o.params) e ∙ all_found ts find_it known b.params q.params in
    λ i. record { name = (e i).name; has_this = (e i).has_this; vararg = (e i).vararg; formals = (e i).formals; ret = rets i; params = params i }

-- one whose result was put in before its parameters
pub open_spells : (mid new : List Ty) (o : OpenMethod) (is : Open) → Spells mid o.ret is.ret → Grows mid new → SpellAll new o.params is.params
    → o.name ≡ is.name → o.has_this ≡ is.has_this → o.vararg ≡ is.vararg → o.formals ≡ is.formals → SpellsOpen new o is
open_spells mid new o is first g rest name this vararg formals =
    let kept = spells-grown mid new g o.ret is.ret first in
    record {
      within = record { ret = kept.within; params = rest.within };
      are = λ i. record { name = name i; has_this = this i; vararg = vararg i; formals = formals i; ret = kept.is i; params = rest.are i };
    }
