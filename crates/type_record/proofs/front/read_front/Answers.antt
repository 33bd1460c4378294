use Rattle.std.proofs.Common.{◌≡◌, None, sym, subst, ◌∙◌, get_or, rules}
use Rattle.type_record.specs.TheOne.{IsTheOne}
use Rattle.type_record.specs.Sections.{IsFront, IsFrontOf}
use Rattle.type_record.proofs.TheOneLemmas.{the_same_one}
use Rattle.type_record.proofs.FrontLemmas.{first_of_front, second_of_front, third_of_front, fourth_of_front, told_first, told_second, told_third, told_fourth, front_told, front_from, levels_from}
use Rattle.type_record.proofs.front.read_front.Goals as goal

pub returns-in_err-first : goal.returns-in_err-first
returns-in_err-first c =
    let none : c.from_residual.result ≡ None = first_of (search rules, cc) in
    subst (IsTheOne (IsFront c.args.words.now)) (sym none) (λ x is. c.in_err-first.ensures (first_of_front x) (told_first c.args.words.now x is))

pub returns-in_err-second : goal.returns-in_err-second
returns-in_err-second c =
    let none : c.from_residual-in_err-second.result ≡ None = first_of (search rules, cc) in
    subst (IsTheOne (IsFront c.args.words.now)) (sym none) (λ x is. c.in_err-second.ensures (second_of_front x) (told_second c.args.words.now x is))

pub returns-in_err-third : goal.returns-in_err-third
returns-in_err-third c =
    let none : c.from_residual-in_err-third.result ≡ None = first_of (search rules, cc) in
    subst (IsTheOne (IsFront c.args.words.now)) (sym none) (λ x is. c.in_err-third.ensures (third_of_front x) (told_third c.args.words.now x is))

pub returns-in_err-fourth : goal.returns-in_err-fourth
returns-in_err-fourth c =
    let none : c.from_residual-in_err-fourth.result ≡ None = first_of (search rules, cc) in
    subst (IsTheOne (IsFront c.args.words.now)) (sym none) (λ x is. c.in_err-fourth.ensures (fourth_of_front x) (told_fourth c.args.words.now x is))

pub returns : goal.returns
returns c =
    let words = c.args.words.now in
    let levels = levels_from (get_or c.args.words.now 4 0) (get_or c.args.words.now 5 0) (get_or c.args.words.now 6 0) (get_or c.args.words.now 7 0) (sym c.are_levels.ensures ∙ c.if-not-are_levels.false) in
    let a = c.in_ok-first.first in
    let b = c.in_ok-second.second in
    let d = c.in_ok-third.third in
    let e = c.in_ok-fourth.fourth in
    let one = c.in_ok-first.ensures in
    let two = c.in_ok-second.ensures in
    let three = c.in_ok-third.ensures in
    let four = c.in_ok-fourth.ensures in
    the_same_one (IsFrontOf a b d e) (IsFront words) c.front_of.result c.front_of.ensures
    (λ x told. front_from words a b d e x c.if-words-lt8.false one.0.0 one.0.1 two.0.0 two.0.1 three.0.0 three.0.1 four.0.1 levels.0 levels.1 levels.2 levels.3 told)
    (λ x is. front_told words a b d e x is (one.1 (first_of_front x) (told_first words x is)) (two.1 (second_of_front x) (told_second words x is))
    (three.1 (third_of_front x) (told_third words x is)) (four.1 (fourth_of_front x) (told_fourth words x is)))
