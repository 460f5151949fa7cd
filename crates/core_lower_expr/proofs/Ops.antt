-- What each instruction does with the words of its operands.
use Rattle.std.proofs.Common.{◌≡◌, ℕ, ◌+◌, List, [], ◌∷◌, ◌++◌, length, take, drop, Some, Result, Ok, Err, refl, sym, ap, ap₂, ◌∙◌, subst, arith, append_assoc, length-append, ℤ}
use Rattle.dc_types.specs.declared.kind.Kind.{Kind}
use Rattle.dc_types.specs.declared.kind.Kind.TheVariants as kind
use Rattle.dc_types.specs.declared.kind.BinOp.{BinOp}
use Rattle.dc_types.specs.declared.kind.BinOp.TheVariants as binop
use Rattle.dc_types.specs.declared.kind.CmpOp.{CmpOp}
use Rattle.dc_types.specs.declared.place.Place.{Place}
use Rattle.dc_types.specs.declared.ty.Ty.{Ty}
use Rattle.dc_types.specs.declared.ty.Ty.TheOpen.{Ty-F}
use Rattle.dc_types.specs.declared.ty.Ty.TheViews.{out-Ty}
use Rattle.dc_types.specs.declared.constant.Const.{Const}
use Rattle.dc_value.specs.declared.value.Value.TheOpen.{Value-F}
use Rattle.dc_value.specs.declared.value.Value.TheViews.{out-roll-Value}
use Rattle.dc_types.specs.declared.event.TrapKind.{TrapKind}
use Rattle.dc_types.specs.declared.event.Limits.{Limits}
use Rattle.dc_types.specs.Integers.{InKind, binary, compare}
use Rattle.dc_types.proofs.Values.{InKind-binary}
use Rattle.dc_code.specs.State.{On}
use Rattle.dc_code.specs.Numbers.{number_of, word_of, bit_of}
use Rattle.dc_code.specs.Blocks.{word_in, words_in, put}
use Rattle.dc_code.specs.Table.{second_kind, computes}
use Rattle.dc_code.specs.Perform.{with_words, perform}
use Rattle.dc_code.specs.declared.instr.Op.TheVariants as op
use Rattle.dc_code.specs.declared.instr.Instr.{Instr}
use Rattle.dc_code.specs.declared.run.Nest.{Nest}
use Rattle.dc_code.specs.declared.code.Draft.{Draft}
use Rattle.core_tree.specs.Values.{num, number_in, number_by, number_of_tree, truth_number}
use Rattle.core_tree.specs.Meaning.{State, Goes, Part, value_at, with_value, assigned, given, operated}
use Rattle.core_tree.specs.Typed.{type_at, right_kind}
use Rattle.core_tree.specs.declared.tree.Variable.{Variable}
use Rattle.core_lower_expr.specs.Lowered.{instr, constant_ops, local_ops, assign_ops, binary_ops, compare_ops}
use Rattle.core_lower_expr.specs.Frames.{slot_of, word, fine_at}
use Rattle.core_lower_expr.proofs.Steps.{Leads, one}
use Rattle.core_lower_expr.proofs.Seams.{take_more, put_middle}
use Rattle.core_lower_expr.proofs.Words.{reads, truth_word, truth_in_kind}
use Rattle.core_lower_expr.proofs.Locals.{words_of, Good, stands}
use Rattle.core_lower_expr.proofs.Follow.{Here, front, having, at, Form, value, pair, unit, M, Gives, Operates, fixed, front_length, answers, operand}

-- the form of numbers of a kind
abbrev pub number : Kind → Form
number k = value (Ty-F.Int k)

pub num_is : (z : ℤ) → number_in (num z) ≡ z
num_is z = ap number_by (out-roll-Value (Value-F.Num z))

same_right : (o : BinOp) (k : Kind) → second_kind o k ≡ right_kind o k
same_right binop.Add k = refl
same_right binop.Sub k = refl
same_right binop.Mul k = refl
same_right binop.Div k = refl
same_right binop.Rem k = refl
same_right binop.BitAnd k = refl
same_right binop.BitOr k = refl
same_right binop.BitXor k = refl
same_right binop.Shl k = refl
same_right binop.Shr k = refl
same_right binop.Ushr k = refl

module _ (code : Draft) (limits : Limits) (nest : Nest) (h : Here) (vars : List Variable) (fuel : ℕ) where
  abbrev Op : (F G : Form) → (ℕ → List Instr) → (F.A → Part G.A) → Type 0
  Op = Operates code limits nest h vars fuel

  pub constant_op : (place : Place) (c : Const) (k : Kind) → InKind k (number_of_tree c.tree) → Op unit (number k) (constant_ops place c) (λ a s. Goes (num (number_of_tree c.tree)) s)
  constant_op place c k fine pc spare taken temps rest s a has e good is_fine room ticks =
      let z = number_of_tree c.tree in
      answers code limits nest h vars fuel (number k) (M code limits nest h vars pc taken s temps rest) pc spare taken temps rest s s.left (num z) (word_of z ∷ []) e good
      (subst (InKind k) (sym (num_is z)) fine) (ap (λ n. word_of n ∷ []) (num_is z)) (omega (arith, room)) (omega arith)
      (one code limits (at code limits nest h vars pc taken s temps rest) (instr place (op.Const spare (word_of z))) _ has.0 refl)

  -- the words with one of the variables' apart
  split : (below f b temps rest : List ℕ) (w : ℕ) → ((below ++ (f ++ (w ∷ b))) ++ temps) ++ rest ≡ (below ++ f) ++ (w ∷ ((b ++ temps) ++ rest))
  split below f b temps rest w = simp append_assoc

  apart : (s : State) (temps more hs : List ℕ) (f b : List ℕ) (w : ℕ) → hs ≡ f ++ (w ∷ b) → ((h.below ++ hs) ++ temps) ++ more ≡ (h.below ++ f) ++ (w ∷ ((b ++ temps) ++ more))
  apart s temps more hs f b w e = ap (λ l. ((h.below ++ l) ++ temps) ++ more) e ∙ split h.below f b temps more w

  pub local_op : (place : Place) (v : Variable) (ty : Ty) (k : Kind) (slot : ℕ) → slot ≡ slot_of v.place vars → type_at v.place vars ≡ Some ty → out-Ty ty ≡ Ty-F.Int k → Op unit (number k) (local_ops place slot) (λ a s. Goes (value_at v.place s.locals) s)
  local_op place v ty k slot at_slot there is pc spare taken temps rest s a has e good is_fine room ticks =
      let st = stands v.place ty vars s.locals good there in
      let m = at code limits nest h vars pc taken s temps rest in
      let x = value_at v.place s.locals in
      let where_is : length h.below + slot ≡ length (h.below ++ st.front) = omega (arith, length-append h.below st.front, st.at, at_slot) in
      let read : words_in m slot 1 ≡ word x ∷ [] =
      ap (λ l. take 1 (drop (length h.below + slot) l)) (apart s temps rest (words_of s.locals) st.front st.back (word x) st.here)
      ∙ take_more (h.below ++ st.front) (word x ∷ []) ((st.back ++ temps) ++ rest) (length h.below + slot) 1 where_is refl in
      answers code limits nest h vars fuel (number k) (On m) pc spare taken temps rest s s.left x (word x ∷ []) e good
      (subst (λ l. fine_at l x) is st.fine) refl (omega (arith, room)) (omega arith)
      (one code limits m (instr place (op.Copy spare slot 1)) _ has.0 (ap (λ ws. On (with_words spare ws m)) read))

  pub assign_op : (place : Place) (v : Variable) (ty : Ty) (k : Kind) (slot : ℕ) → slot ≡ slot_of v.place vars → type_at v.place vars ≡ Some ty → out-Ty ty ≡ Ty-F.Int k → Op (number k) (number k) (assign_ops place slot) (assigned v.place)
  assign_op place v ty k slot at_slot there is pc spare taken temps rest s x has e good fine room ticks =
      let st = stands v.place ty vars s.locals good there in
      let more = word x ∷ rest in
      let m = at code limits nest h vars pc taken s temps more in
      let old = value_at v.place s.locals in
      let s' : State = record s { locals = with_value v.place x s.locals } in
      let where_is : length h.below + slot ≡ length (h.below ++ st.front) = omega (arith, length-append h.below st.front, st.at, at_slot) in
      let read : words_in m spare 1 ≡ word x ∷ [] = take_more (front h s temps) (word x ∷ []) rest (length h.below + spare) 1 (omega (arith, front_length code limits nest h vars s temps good, e)) refl in
      let stored : put m.words (length h.below + slot) (word x ∷ []) ≡ front h s' temps ++ more =
      ap (λ l. put l (length h.below + slot) (word x ∷ [])) (apart s temps more (words_of s.locals) st.front st.back (word old) st.here)
      ∙ put_middle (h.below ++ st.front) (word old ∷ []) ((st.back ++ temps) ++ more) (word x ∷ []) (length h.below + slot) where_is refl
      ∙ sym (apart s temps more (words_of s'.locals) st.front st.back (word x) (st.there x)) in
      record {
        rest = rest;
        taken = taken;
        fine = fine;
        good = st.keeps x (subst (λ l. fine_at l x) (sym is) fine);
        fills = omega arith;
        ticks = omega arith;
        by = one code limits m (instr place (op.Copy slot spare 1)) _ has.0
            (ap (λ ws. On (with_words slot ws m)) read ∙ ap (λ l. On (having code limits nest h vars (pc + 1) taken s' l)) stored);
      }

  -- what the second of two words is
  second : (pc spare taken : ℕ) (temps rest : List ℕ) (s : State) (a b : ℕ) → spare ≡ fixed code limits nest h vars + length temps → Good vars s.locals → word_in (at code limits nest h vars pc taken s temps (a ∷ (b ∷ rest))) (spare + 1) ≡ b
  second pc spare taken temps rest s a b e good = operand code limits nest h vars fuel pc spare taken 1 temps (a ∷ (b ∷ rest)) s (spare + 1) e good refl

  first : (pc spare taken : ℕ) (temps rest : List ℕ) (s : State) (a : ℕ) → spare ≡ fixed code limits nest h vars + length temps → Good vars s.locals → word_in (at code limits nest h vars pc taken s temps (a ∷ rest)) spare ≡ a
  first pc spare taken temps rest s a e good = operand code limits nest h vars fuel pc spare taken 0 temps (a ∷ rest) s spare e good (omega arith)

  pub binary_op : (place : Place) (o : BinOp) (k : Kind) → Op (pair (number k) (number (right_kind o k))) (number k) (binary_ops place o k) (operated place o k)
  binary_op place o k pc spare taken temps rest s xy has e good fine room ticks =
      let x = xy.0 in
      let y = xy.1 in
      let more = word x ∷ (word y ∷ rest) in
      let m = at code limits nest h vars pc taken s temps more in
      let left : number_of k (word_in m spare) ≡ number_in x = ap (number_of k) (first pc spare taken temps (word y ∷ rest) s (word x) e good) ∙ reads k (number_in x) fine.0 in
      let right : number_of (second_kind o k) (word_in m (spare + 1)) ≡ number_in y =
      ap₂ number_of (same_right o k) (second pc spare taken temps rest s (word x) (word y) e good) ∙ reads (right_kind o k) (number_in y) fine.1 in
      by_result (binary o k (number_in x) (number_in y)) refl
      (one code limits m (instr place (op.Binary o k spare spare (spare + 1))) _ has.0 (ap₂ (λ a b. perform limits place (computes spare (binary o k a b)) m) left right)) where
        by_result : (r : Result ℤ TrapKind) → binary o k (number_in xy.0) (number_in xy.1) ≡ r →
            Leads code limits (M code limits nest h vars pc taken s temps (word xy.0 ∷ (word xy.1 ∷ rest))) (perform limits place (computes spare r) (at code limits nest h vars pc taken s temps (word xy.0 ∷ (word xy.1 ∷ rest)))) →
            Gives code limits nest h vars (number k) (M code limits nest h vars pc taken s temps (word xy.0 ∷ (word xy.1 ∷ rest))) (pc + 1) temps (length (word xy.0 ∷ (word xy.1 ∷ rest))) s.left (given place r s)
        by_result (Ok z) is l =
            answers code limits nest h vars fuel (number k) _ pc spare taken temps (word xy.0 ∷ (word xy.1 ∷ rest)) s s.left (num z) (word_of z ∷ []) e good
            (subst (InKind k) (sym (num_is z)) (InKind-binary o k (number_in xy.0) (number_in xy.1) z is)) (ap (λ n. word_of n ∷ []) (num_is z)) (omega (arith, room)) (omega arith) l
        by_result (Err trap) is l = record { taken = taken; stops = tt; by = l }

  pub compare_op : (place : Place) (o : CmpOp) (k : Kind) → Op (pair (number k) (number k)) (number kind.Bool) (compare_ops place o k) (λ xy s. Goes (num (truth_number (compare o (number_in xy.0) (number_in xy.1)))) s)
  compare_op place o k pc spare taken temps rest s xy has e good fine room ticks =
      let x = xy.0 in
      let y = xy.1 in
      let more = word x ∷ (word y ∷ rest) in
      let m = at code limits nest h vars pc taken s temps more in
      let left : number_of k (word_in m spare) ≡ number_in x = ap (number_of k) (first pc spare taken temps (word y ∷ rest) s (word x) e good) ∙ reads k (number_in x) fine.0 in
      let right : number_of k (word_in m (spare + 1)) ≡ number_in y = ap (number_of k) (second pc spare taken temps rest s (word x) (word y) e good) ∙ reads k (number_in y) fine.1 in
      let b = compare o (number_in x) (number_in y) in
      let z = truth_number b in
      answers code limits nest h vars fuel (number kind.Bool) (On m) pc spare taken temps more s s.left (num z) (word_of z ∷ []) e good
      (subst (InKind kind.Bool) (sym (num_is z)) (truth_in_kind b)) (ap (λ n. word_of n ∷ []) (num_is z)) (omega (arith, room)) (omega arith)
      (one code limits m (instr place (op.Compare o k spare spare (spare + 1))) _ has.0
      (ap₂ (λ a b. On (with_words spare (bit_of (compare o a b) ∷ []) m)) left right ∙ ap (λ w. On (with_words spare (w ∷ []) m)) (truth_word b)))
