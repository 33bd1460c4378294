-- Distinct events have distinct words.
use Rattle.std.proofs.Common.{◌≡◌, ℕ, zero, suc, ◌+◌, ◌<◌, [], ◌∷◌, get_or, true, false, Option, None, Some, sym, refl, ap, ◌∙◌, arith}
use Rattle.clr_base.specs.declared.ids.Handle.{Handle}
use Rattle.load_events.specs.declared.load_fault.LoadFault.{LoadFault}
use Rattle.load_events.specs.declared.load_fault.LoadFault.TheVariants.{NotFound, Arity, BadArgument, BaseCycle, Expanding, BadParent, BadInterface, BadOverride, NoMethod, BadLayout, LayoutDeep, Constraint, TooLarge, NotInProfile}
use Rattle.load_events.specs.declared.event.Answer.TheVariants.{Loaded, Refused}
use Rattle.load_events.specs.declared.event.Event.{Event}
use Rattle.load_events.specs.declared.event.Event.TheVariants.{Ask, Done, Find}
use Rattle.load_events.specs.Events.{fault_number, context_number, packed, word_of, tag_of, caller_of, first_of, second_of, IsNarrow, IsNarrowContext}

fault_at : ℕ → LoadFault
fault_at n = get_or
    (NotFound ∷ NotFound ∷ Arity ∷ BadArgument ∷ BaseCycle ∷ Expanding ∷ BadParent ∷ BadInterface ∷ BadOverride ∷ NoMethod ∷ BadLayout ∷ LayoutDeep ∷ Constraint ∷ TooLarge ∷ NotInProfile ∷ []) n NotFound

fault_back : (f : LoadFault) → fault_at (fault_number f) ≡ f
unfolding fault_at
fault_back NotFound = refl
fault_back Arity = refl
fault_back BadArgument = refl
fault_back BaseCycle = refl
fault_back Expanding = refl
fault_back BadParent = refl
fault_back BadInterface = refl
fault_back BadOverride = refl
fault_back NoMethod = refl
fault_back BadLayout = refl
fault_back LayoutDeep = refl
fault_back Constraint = refl
fault_back TooLarge = refl
fault_back NotInProfile = refl

fault_small : (f : LoadFault) → fault_number f < 15
fault_small NotFound = omega arith
fault_small Arity = omega arith
fault_small BadArgument = omega arith
fault_small BaseCycle = omega arith
fault_small Expanding = omega arith
fault_small BadParent = omega arith
fault_small BadInterface = omega arith
fault_small BadOverride = omega arith
fault_small NoMethod = omega arith
fault_small BadLayout = omega arith
fault_small LayoutDeep = omega arith
fault_small Constraint = omega arith
fault_small TooLarge = omega arith
fault_small NotInProfile = omega arith

context_at : ℕ → Option Handle
context_at zero = None
context_at (suc n) = Some (record { 0 = n })

context_back : (c : Option Handle) → context_at (context_number c) ≡ c
unfolding context_at
context_back None = refl
context_back (Some h) = let e : h.0 + 1 ≡ suc h.0 = omega arith in ap context_at e

-- the event of a tag and three numbers
event_at : ℕ → ℕ → ℕ → ℕ → Event
event_at t n a b = get_or
    (Done n (Refused NotFound) ∷ Ask n (context_at a) (record { 0 = b }) ∷ Find n (context_at a) (record { 0 = b }) false ∷ Find n (context_at a) (record { 0 = b }) true
    ∷ Done n (Loaded (record { 0 = a }) false) ∷ Done n (Loaded (record { 0 = a }) true) ∷ Done n (Refused (fault_at a)) ∷ []) t (Done n (Refused NotFound))

event_back : (e : Event) → event_at (tag_of e) (caller_of e) (first_of e) (second_of e) ≡ e
unfolding event_at
event_back (Ask n context sig) = ap (λ (c : Option Handle). Ask n c sig) (context_back context)
event_back (Find n context sig false) = ap (λ (c : Option Handle). Find n c sig false) (context_back context)
event_back (Find n context sig true) = ap (λ (c : Option Handle). Find n c sig true) (context_back context)
event_back (Done n (Loaded h false)) = refl
event_back (Done n (Loaded h true)) = refl
event_back (Done n (Refused f)) = ap (λ (g : LoadFault). Done n (Refused g)) (fault_back f)

context_small : (c : Option Handle) → IsNarrowContext c → context_number c < 524288
context_small None h = omega arith
context_small (Some x) h = omega arith

abbrev Fits : Event → Type 0
Fits e = (tag_of e < 8) × (caller_of e < 4096) × (first_of e < 524288)

pub fits : (e : Event) → IsNarrow e → Fits e
fits (Ask n context sig) h = (omega arith, h.0, context_small context h.1)
fits (Find n context sig false) h = (omega arith, h.0, context_small context h.1)
fits (Find n context sig true) h = (omega arith, h.0, context_small context h.1)
fits (Done n (Loaded x false)) h = let low = h.1 in (omega arith, h.0, omega arith)
fits (Done n (Loaded x true)) h = let low = h.1 in (omega arith, h.0, omega arith)
fits (Done n (Refused f)) h = let low = fault_small f in (omega arith, h.0, omega arith)

unpacked : (t c a b u d e f : ℕ) → t < 8 → u < 8 → c < 4096 → d < 4096 → a < 524288 → e < 524288 → packed t c a b ≡ packed u d e f → (t ≡ u) × (c ≡ d) × (a ≡ e) × (b ≡ f)
unpacked t c a b u d e f ht hu hc hd ha he same =
    let tag : t ≡ u = omega arith in let caller : c ≡ d = omega arith in let first : a ≡ e = omega arith in let second : b ≡ f = omega arith in (tag, caller, first, second)

pub same_event : (d e : Event) → IsNarrow d → IsNarrow e → word_of d ≡ word_of e → d ≡ e
same_event d e hd he same =
    let a = fits d hd in let b = fits e he in
    let p = unpacked (tag_of d) (caller_of d) (first_of d) (second_of d) (tag_of e) (caller_of e) (first_of e) (second_of e) a.0 b.0 a.1 b.1 a.2 b.2 same in
    sym (event_back d) ∙ ((λ i. event_at (p.0 i) (p.1 i) (p.2 i) (p.3 i)) ∙ event_back e)
