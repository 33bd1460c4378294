-- From what the code does to the running state, to what is expected of the state that it stands for.
use Rattle.std.proofs.Common.{◌≡◌, Result, Ok, Err, sym, ap, ◌∙◌}
use Rattle.cil_state.specs.declared.trap.Stop.{Stop}
use Rattle.cil_state.specs.declared.trap.Stop.TheVariants as stop
use Rattle.cil_state.specs.declared.trap.Trap.{Trap}
use Rattle.cil_state.specs.Meets.{Meets, on_ok}

-- an answer of the code, through a function
pub lift : {R A B : Type 0} (r : Result R Stop) (value : R → A) (f : A → B) (e : Result A Trap) (e' : Result B Trap)
    → on_ok f e ≡ e' → Meets r value e → Meets r (λ x. f (value x)) e'
lift (Ok x) value f e e' n m = sym n ∙ ap (on_ok f) m
lift (Err (stop.Trap t)) value f e e' n m = sym n ∙ ap (on_ok f) m
lift (Err stop.Memory) value f e e' n m = tt
