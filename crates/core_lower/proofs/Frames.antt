-- The variables of a function that begins.
use Rattle.std.proofs.Common.{◌≡◌, ◌&&◌, List, [], ◌∷◌, ◌++◌, length, map, replicate, refl, sym, ap, ap₂, ◌∙◌, subst, arith, IsTrue, pos}
use Rattle.dc_value.specs.declared.value.Value.{Value}
use Rattle.dc_types.specs.Integers.{InKind}
use Rattle.dc_types.proofs.Values.{zero_in_kind}
use Rattle.dc_code.specs.Numbers.{word_of}
use Rattle.core_tree.specs.Values.{nothing}
use Rattle.core_tree.specs.Meaning.{Held, handed}
use Rattle.core_tree.specs.Typed.{is_number, are_numbers, types_of}
use Rattle.core_tree.specs.declared.tree.Variable.{Variable}
use Rattle.core_lower_expr.specs.Frames.{word, fine_at}
use Rattle.core_lower_expr.proofs.Words.{zero_word}
use Rattle.core_lower_expr.proofs.Locals.{words_of, Good}
use Rattle.core_lower_expr.proofs.Ops.{num_is}
use Rattle.core_lower_expr.proofs.Prints.{AreFine}
use Rattle.core_lower_expr.proofs.Exprs.{both_true, number_is}

pub nothing_word : word nothing ≡ 0
nothing_word = ap word_of (num_is (pos 0)) ∙ zero_word

-- parameters hold the arguments
pub handed_words : (ps : List Variable) (vs : List Value) → AreFine (types_of ps) vs → words_of (handed ps vs) ≡ map word vs
handed_words [] [] f = refl
handed_words [] (v ∷ vs) f = absurd f
handed_words (p ∷ ps) [] f = absurd f
handed_words (p ∷ ps) (v ∷ vs) f = ap (λ l. word v ∷ l) (handed_words ps vs f.1)

pub handed_good : (ps : List Variable) (vs : List Value) → AreFine (types_of ps) vs → Good ps (handed ps vs)
handed_good [] [] f = tt
handed_good [] (v ∷ vs) f = absurd f
handed_good (p ∷ ps) [] f = absurd f
handed_good (p ∷ ps) (v ∷ vs) f = (record { place = refl; fine = subst (λ x. fine_at x v) (sym f.0.is) f.0.fine }, handed_good ps vs f.1)

pub handed_length : (ps : List Variable) (vs : List Value) → AreFine (types_of ps) vs → length (map word vs) ≡ length ps
handed_length [] [] f = refl
handed_length [] (v ∷ vs) f = absurd f
handed_length (p ∷ ps) [] f = absurd f
handed_length (p ∷ ps) (v ∷ vs) f = omega (arith, handed_length ps vs f.1)

-- the others hold 0
pub fresh_words : (ps : List Variable) → words_of (handed ps []) ≡ replicate (length ps) 0
fresh_words [] = refl
fresh_words (p ∷ ps) = ap₂ (λ w l. w ∷ l) nothing_word (fresh_words ps)

pub fresh_good : (ps : List Variable) → IsTrue (are_numbers (types_of ps)) → Good ps (handed ps [])
fresh_good [] t = tt
fresh_good (p ∷ ps) t =
    let ts = both_true (is_number p.ty) (are_numbers (types_of ps)) t in
    let k = number_is p.ty ts.0 in
    (record { place = refl; fine = subst (λ x. fine_at x nothing) (sym k.1) (subst (InKind k.0) (sym (num_is (pos 0))) (zero_in_kind k.0)) }, fresh_good ps ts.1)

pub good_append : (xs ys : List Variable) (hs gs : List Held) → Good xs hs → Good ys gs → Good (xs ++ ys) (hs ++ gs)
good_append [] ys [] gs g k = k
good_append (a ∷ xs) ys (h ∷ hs) gs g k = (g.0, good_append xs ys hs gs g.1 k)
good_append [] ys (h ∷ hs) gs g k = absurd g
good_append (a ∷ xs) ys [] gs g k = absurd g

pub words_append : (hs gs : List Held) → words_of (hs ++ gs) ≡ words_of hs ++ words_of gs
words_append [] gs = refl
words_append (h ∷ hs) gs = ap (λ l. word h.value ∷ l) (words_append hs gs)

-- of variables that are numbers, a part is too
pub numbers_split : (xs ys : List Variable) → IsTrue (are_numbers (types_of (xs ++ ys))) → IsTrue (are_numbers (types_of xs)) × IsTrue (are_numbers (types_of ys))
numbers_split [] ys t = (refl, t)
numbers_split (a ∷ xs) ys t =
    let ts = both_true (is_number a.ty) (are_numbers (types_of (xs ++ ys))) t in
    let us = numbers_split xs ys ts.1 in
    (ap₂ (λ x y. x && y) ts.0 us.0, us.1)
