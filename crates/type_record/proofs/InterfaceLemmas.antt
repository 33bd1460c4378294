-- Interfaces one after the other.
use Rattle.std.proofs.Common.{◌≡◌, ℕ, ◌+◌, ◌<◌, ◌≤◌, List, [], ◌∷◌, ◌++◌, map, length, take, drop, Option, Some, refl, sym, ap, ◌∙◌, subst, arith, get_or, append_assoc}
use Rattle.std.specs.List.{flat_map, All}
use Rattle.std.proofs.lemmas.List.{length-map, length-append, map-append, append-nil, length-take-le, take_at, drop_at, take-append-drop, drop_more, drop-drop, length-drop, drop_all}
use Rattle.std.proofs.lemmas.Simd.{map-map}
use Rattle.std.proofs.lemmas.List.Elements.{All-nil, All-cons, All-head, All-tail}
use Rattle.clr_base.specs.declared.ids.Handle.{Handle}
use Rattle.type_record.specs.declared.loaded.SlotOf.{SlotOf}
use Rattle.type_record.specs.declared.interfaces.FirstInterface.{FirstInterface}
use Rattle.type_record.specs.declared.interfaces.Interfaces.{Interfaces}
use Rattle.type_record.specs.TheOne.{IsTheOne}
use Rattle.type_record.specs.Words.{row_word, word_of, IsHandle}
use Rattle.type_record.specs.Room.{ChoiceFits}
use Rattle.type_record.specs.Records.{entry, choice_entry, interface_entries}
use Rattle.type_record.specs.Sections.{number_in, AreWords, AreInterfaces, IsFirst, IsOwnCount}

abbrev Lists : Type 0
Lists = List (List (Option (SlotOf Handle)))

abbrev choice_word : Option (SlotOf Handle) → ℕ
choice_word c = word_of (choice_entry c)

pub number_of_word : (n at : ℕ) → at < 524288 → number_in (row_word n at) ≡ n
number_of_word n at small = omega arith

-- the first of the interfaces, and the others
pub record Splits (before : ℕ) (words methods : List ℕ) (is : List Handle) (ls : Lists) : Type 0 where
  pub first : FirstInterface
  pub others : List Handle
  pub other_lists : Lists
  pub interfaces_are : is ≡ first.interface ∷ others
  pub lists_are : ls ≡ first.slots ∷ other_lists
  pub is_first : IsFirst before words methods first
  pub rest : AreInterfaces (before + length first.slots) (drop 1 words) (drop (length first.slots) methods) others other_lists

words_map : (list : List (Option (SlotOf Handle))) → map word_of (map choice_entry list) ≡ map choice_word list
words_map list = map-map word_of choice_entry list

-- the words of the methods of some lists
methods_front : (list : List (Option (SlotOf Handle))) (lists : Lists) → map word_of (flat_map (map choice_entry) (list ∷ lists)) ≡ map choice_word list ++ map word_of (flat_map (map choice_entry) lists)
methods_front list lists = map-append word_of (map choice_entry list) (flat_map (map choice_entry) lists) ∙ ap (λ xs. xs ++ map word_of (flat_map (map choice_entry) lists)) (words_map list)

first_word_next : (before : ℕ) (is : List Handle) (ls : Lists) (w : ℕ) (ws : List ℕ) → All IsHandle is → map word_of (interface_entries before is ls) ≡ w ∷ ws → before ≡ number_in w
first_word_next before [] ls w ws handles e = absurd cc
first_word_next before (i ∷ is) [] w ws handles e =
    let one : row_word before (i.0 + 1) ≡ w = cc in
    let small : i.0 < 262144 = All-head IsHandle i is handles in
    sym (number_of_word before (i.0 + 1) (omega arith)) ∙ ap number_in one
first_word_next before (i ∷ is) (l ∷ ls) w ws handles e =
    let one : row_word before (i.0 + 1) ≡ w = cc in
    let small : i.0 < 262144 = All-head IsHandle i is handles in
    sym (number_of_word before (i.0 + 1) (omega arith)) ∙ ap number_in one

-- no words, no interfaces, so no methods
no_words : (before : ℕ) (is : List Handle) (ls : Lists) → length ls ≡ length is → map word_of (interface_entries before is ls) ≡ [] → (is ≡ []) × (ls ≡ [])
no_words before [] [] same e = (refl, refl)
no_words before [] (l ∷ ls) same e = absurd (omega arith)
no_words before (i ∷ is) [] same e = absurd cc
no_words before (i ∷ is) (l ∷ ls) same e = absurd cc

last_length : (list : List (Option (SlotOf Handle))) (lists : Lists) (methods : List ℕ) → lists ≡ [] → map choice_word list ++ map word_of (flat_map (map choice_entry) lists) ≡ methods → length list ≡ length methods
last_length list lists methods none e =
    let whole : map choice_word list ++ [] ≡ methods = ap (λ (xs : Lists). map choice_word list ++ map word_of (flat_map (map choice_entry) xs)) (sym none) ∙ e in
    sym (length-map list choice_word) ∙ ap length (sym (append-nil (map choice_word list)) ∙ whole)

first_last : (before : ℕ) (is : List Handle) (list : List (Option (SlotOf Handle))) (ls : Lists) (w : ℕ) (ws methods : List ℕ) → length ls ≡ length is
    → map word_of (interface_entries before is ls) ≡ ws → map choice_word list ++ map word_of (flat_map (map choice_entry) ls) ≡ methods → length (w ∷ ws) ≡ 1 → length list ≡ length methods
first_last before is list ls w [] methods same e ms one = last_length list ls methods (no_words before is ls same e).1 ms
first_last before is list ls w (v ∷ ws) methods same e ms one = absurd (omega arith)

first_next : (before : ℕ) (is : List Handle) (ls : Lists) (w : ℕ) (ws : List ℕ) → All IsHandle is → map word_of (interface_entries before is ls) ≡ ws → 1 < length (w ∷ ws) → before ≡ number_in (get_or (w ∷ ws) 1 0)
first_next before is ls w [] handles e more = absurd (omega arith)
first_next before is ls w (v ∷ ws) handles e more = first_word_next before is ls v ws handles e

pub split : (before : ℕ) (w : ℕ) (ws methods : List ℕ) (is : List Handle) (ls : Lists) → AreInterfaces before (w ∷ ws) methods is ls → Splits before (w ∷ ws) methods is ls
split before w ws methods [] ls are = absurd (let e = are.words_are in cc)
split before w ws methods (i ∷ is) [] are = absurd (let e = are.one_list_each in omega arith)
split before w ws methods (i ∷ is) (l ∷ ls) are =
    let e = are.words_are in
    let same : length ls ≡ length is = let all = are.one_list_each in omega arith in
    let here : word_of (entry before (Some i)) ≡ w = cc in
    let behind : map word_of (interface_entries (before + length l) is ls) ≡ ws = cc in
    let ms : map choice_word l ++ map word_of (flat_map (map choice_entry) ls) ≡ methods = sym (methods_front l ls) ∙ are.methods_are in
    let long = length-map l choice_word in
    let sum = length-append (map choice_word l) (map word_of (flat_map (map choice_entry) ls)) in
    let total : length (map choice_word l ++ map word_of (flat_map (map choice_entry) ls)) ≡ length methods = ap length ms in
    let handles = All-tail IsHandle i is are.handles in
    record {
      first = record { interface = i; slots = l };
      others = is;
      other_lists = ls;
      interfaces_are = refl;
      lists_are = refl;
      is_first = record {
        handle = All-head IsHandle i is are.handles;
        fits = All-head (All ChoiceFits) l ls are.fits;
        word_is = sym here;
        within = omega arith;
        last = first_last (before + length l) is l ls w ws methods same behind ms;
        next = first_next (before + length l) is ls w ws handles behind;
        methods_are = sym (take_at (map choice_word l) (map word_of (flat_map (map choice_entry) ls)) (length l) long) ∙ ap (take (length l)) ms;
      };
      rest = record {
        one_list_each = same;
        handles = handles;
        fits = All-tail (All ChoiceFits) l ls are.fits;
        words_are = behind;
        methods_are = sym (drop_at (map choice_word l) (map word_of (flat_map (map choice_entry) ls)) (length l) long) ∙ ap (drop (length l)) ms;
      };
    }

pub join : (before : ℕ) (w : ℕ) (ws methods : List ℕ) (f : FirstInterface) (is : List Handle) (ls : Lists)
    → IsFirst before (w ∷ ws) methods f → AreInterfaces (before + length f.slots) ws (drop (length f.slots) methods) is ls
    → AreInterfaces before (w ∷ ws) methods (f.interface ∷ is) (f.slots ∷ ls)
join before w ws methods f is ls first rest = record {
  one_list_each = let same = rest.one_list_each in omega arith;
  handles = All-cons IsHandle f.interface is first.handle rest.handles;
  fits = All-cons (All ChoiceFits) f.slots ls first.fits rest.fits;
  words_are = let one : w ≡ word_of (entry before (Some f.interface)) = first.word_is in let others = rest.words_are in cc;
  methods_are =
      methods_front f.slots ls
      ∙ ap (λ xs. xs ++ map word_of (flat_map (map choice_entry) ls)) first.methods_are
      ∙ ap (λ xs. take (length f.slots) methods ++ xs) rest.methods_are
      ∙ take-append-drop (length f.slots) methods;
}

-- the first interface and its methods, by what is read of them
pub count_of_first : {before : ℕ} {words methods : List ℕ} {x : FirstInterface} → IsFirst before words methods x → IsOwnCount before words (length methods) (length x.slots)
count_of_first first = record { within = first.within; last = first.last; next = first.next }

pub slots_of_first : {before own : ℕ} {words methods ws : List ℕ} {x : FirstInterface} → IsFirst before words methods x → length x.slots ≡ own → ws ≡ take own methods → AreWords ChoiceFits choice_entry ws x.slots
slots_of_first {methods = methods} first same ws_are = (first.fits, first.methods_are ∙ ap (λ n. take n methods) same ∙ sym ws_are)

pub first_made : {before own : ℕ} {words methods ws : List ℕ} {interface : Handle} {slots : List (Option (SlotOf Handle))}
    → IsHandle interface × (word_of (entry before (Some interface)) ≡ get_or words 0 0) → IsOwnCount before words (length methods) own → ws ≡ take own methods → AreWords ChoiceFits choice_entry ws slots
    → IsFirst before words methods (record { interface = interface; slots = slots })
first_made {own = own} {methods = methods} {slots = slots} handle count ws_are are =
    let within : own ≤ length methods = count.within in
    let same : length slots ≡ own =
    sym (length-map slots choice_word) ∙ ap length are.1 ∙ ap length ws_are ∙ length-take-le own methods within in
    record {
      handle = handle.0;
      fits = are.0;
      word_is = sym handle.1;
      within = omega arith;
      last = λ one. same ∙ count.last one;
      next = λ more. let n = count.next more in omega arith;
      methods_are = are.1 ∙ ws_are ∙ ap (λ n. take n methods) (sym same);
    }

pub first_same : {before : ℕ} {words methods : List ℕ} {x : FirstInterface} {interface : Handle} {slots : List (Option (SlotOf Handle))}
    → IsFirst before words methods x → x.interface ≡ interface → x.slots ≡ slots → x ≡ record { interface = interface; slots = slots }
first_same {x = x} {interface = interface} {slots = slots} first one other =
    let made : Handle → List (Option (SlotOf Handle)) → FirstInterface = λ i s. record { interface = i; slots = s } in
    ap (λ i. made i x.slots) one ∙ ap (λ s. made interface s) other

pub first_moved : (before : ℕ) {ws ms vs ns : List ℕ} (o : Option FirstInterface) → ws ≡ vs → ms ≡ ns → IsTheOne (IsFirst before ws ms) o → IsTheOne (IsFirst before vs ns) o
first_moved before {ws = ws} {ns = ns} o one other is =
    subst (λ vs. IsTheOne (IsFirst before vs ns) o) one (subst (λ ns. IsTheOne (IsFirst before ws ns) o) other is)

pub interfaces_same : (x : Interfaces) (all : List Handle) (lists : Lists) → (x.all ≡ all) × (x.slots ≡ lists) → x ≡ record { all = all; slots = lists }
interfaces_same x all lists same =
    let made : List Handle → Lists → Interfaces = λ i s. record { all = i; slots = s } in
    ap (λ i. made i x.slots) same.0 ∙ ap (λ s. made all s) same.1

-- what is left goes on from what is read: it makes, behind that, interfaces of the whole; and only that
pub record GoesOn (words methods : List ℕ) (all : List Handle) (lists : Lists) (before i : ℕ) : Type 0 where
  pub within : before ≤ length methods
  pub sound : (is : List Handle) (ls : Lists) → AreInterfaces before (drop i words) (drop before methods) is ls → AreInterfaces 0 words methods (all ++ is) (lists ++ ls)
  pub complete : (js : List Handle) (ms : Lists) → AreInterfaces 0 words methods js ms
      → (is : List Handle) × (ls : Lists) × (js ≡ all ++ is) × (ms ≡ lists ++ ls) × AreInterfaces before (drop i words) (drop before methods) is ls

pub starts : (words methods : List ℕ) → GoesOn words methods [] [] 0 0
starts words methods = record { within = omega arith; sound = λ is ls are. are; complete = λ js ms are. (js, ms, refl, refl, are) }

module _ (words methods : List ℕ) (all : List Handle) (lists : Lists) (before i : ℕ) (low : i < length words) (on : GoesOn words methods all lists before i) where
  here : drop i words ≡ get_or words i 0 ∷ drop (i + 1) words
  here = drop_more words i 0 low

  splits : (is : List Handle) (ls : Lists) → AreInterfaces before (drop i words) (drop before methods) is ls → Splits before (get_or words i 0 ∷ drop (i + 1) words) (drop before methods) is ls
  splits is ls are = split before (get_or words i 0) (drop (i + 1) words) (drop before methods) is ls (subst (λ ws. AreInterfaces before ws (drop before methods) is ls) here are)

  pub none_here : ((f : FirstInterface) → IsFirst before (drop i words) (drop before methods) f → ⊥) → (js : List Handle) (ms : Lists) → AreInterfaces 0 words methods js ms → ⊥
  none_here none js ms are =
      let left = on.complete js ms are in
      let s = splits left.0 left.1 left.4 in
      none s.first (subst (λ ws. IsFirst before ws (drop before methods) s.first) (sym here) s.is_first)

  module _ (f : FirstInterface) (is_first : IsFirst before (drop i words) (drop before methods) f) (one : (x : FirstInterface) → IsFirst before (drop i words) (drop before methods) x → x ≡ f) where
    further : drop (length f.slots) (drop before methods) ≡ drop (before + length f.slots) methods
    further = drop-drop (length f.slots) before methods

    pub goes_on : GoesOn words methods (all ++ f.interface ∷ []) (lists ++ f.slots ∷ []) (before + length f.slots) (i + 1)
    goes_on = record {
      within = let w = is_first.within in let l = length-drop before methods in let k = on.within in omega arith;
      sound = λ is ls are.
          let rest = subst (λ xs. AreInterfaces (before + length f.slots) (drop (i + 1) words) xs is ls) (sym further) are in
          let first = subst (λ ws. IsFirst before ws (drop before methods) f) here is_first in
          let joined = join before (get_or words i 0) (drop (i + 1) words) (drop before methods) f is ls first rest in
          let whole = on.sound (f.interface ∷ is) (f.slots ∷ ls) (subst (λ ws. AreInterfaces before ws (drop before methods) (f.interface ∷ is) (f.slots ∷ ls)) (sym here) joined) in
          subst (λ xs. AreInterfaces 0 words methods xs ((lists ++ f.slots ∷ []) ++ ls)) (sym (append_assoc all (f.interface ∷ []) is))
          (subst (λ xs. AreInterfaces 0 words methods (all ++ (f.interface ∷ is)) xs) (sym (append_assoc lists (f.slots ∷ []) ls)) whole);
      complete = λ js ms are.
          let left = on.complete js ms are in
          let s = splits left.0 left.1 left.4 in
          let same : s.first ≡ f = one s.first (subst (λ ws. IsFirst before ws (drop before methods) s.first) (sym here) s.is_first) in
          let rest : AreInterfaces (before + length f.slots) (drop (i + 1) words) (drop (length f.slots) (drop before methods)) s.others s.other_lists =
          subst (λ (x : FirstInterface). AreInterfaces (before + length x.slots) (drop (i + 1) words) (drop (length x.slots) (drop before methods)) s.others s.other_lists) same s.rest in (
            s.others,
            s.other_lists,
            left.2 ∙ ap (λ xs. all ++ xs) (s.interfaces_are ∙ ap (λ (x : FirstInterface). x.interface ∷ s.others) same) ∙ sym (append_assoc all (f.interface ∷ []) s.others),
            left.3 ∙ ap (λ xs. lists ++ xs) (s.lists_are ∙ ap (λ (x : FirstInterface). x.slots ∷ s.other_lists) same) ∙ sym (append_assoc lists (f.slots ∷ []) s.other_lists),
            subst (λ xs. AreInterfaces (before + length f.slots) (drop (i + 1) words) xs s.others s.other_lists) further rest,
          );
    }

module _ (words methods : List ℕ) (all : List Handle) (lists : Lists) (before i : ℕ) (done : length words ≤ i) (on : GoesOn words methods all lists before i) where
  no_left : drop i words ≡ []
  no_left = drop_all i words done

  left_is : (js : List Handle) (ms : Lists) → AreInterfaces 0 words methods js ms → (js ≡ all) × (ms ≡ lists) × (drop before methods ≡ [])
  left_is js ms are =
      let left = on.complete js ms are in
      let rest = left.4 in
      let none = no_words before left.0 left.1 rest.one_list_each (rest.words_are ∙ no_left) in (
        left.2 ∙ ap (λ xs. all ++ xs) none.0 ∙ append-nil all,
        left.3 ∙ ap (λ xs. lists ++ xs) none.1 ∙ append-nil lists,
        sym rest.methods_are ∙ ap (λ (xs : Lists). map word_of (flat_map (map choice_entry) xs)) none.1,
      )

  pub one_end : (js : List Handle) (ms : Lists) → AreInterfaces 0 words methods js ms → (js ≡ all) × (ms ≡ lists)
  one_end js ms are = let l = left_is js ms are in (l.0, l.1)

  pub no_more : (js : List Handle) (ms : Lists) → AreInterfaces 0 words methods js ms → before ≡ length methods
  no_more js ms are =
      let none : length (drop before methods) ≡ 0 = ap length (left_is js ms are).2 in
      let l = length-drop before methods in
      let k = on.within in
      omega arith

  pub ends : before ≡ length methods → AreInterfaces 0 words methods all lists
  ends whole =
      let none : drop before methods ≡ [] = drop_all before methods (omega arith) in
      let empty : AreInterfaces before (drop i words) (drop before methods) [] [] = record {
        one_list_each = refl;
        handles = All-nil IsHandle;
        fits = All-nil (All ChoiceFits);
        words_are = sym no_left;
        methods_are = sym none;
      } in
      subst (λ xs. AreInterfaces 0 words methods xs lists) (append-nil all) (subst (λ xs. AreInterfaces 0 words methods (all ++ []) xs) (append-nil lists) (on.sound [] [] empty))
