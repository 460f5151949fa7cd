-- The machine prints.
use Rattle.std.proofs.Common.{◌≡◌, ℕ, ◌+◌, ◌≤◌, Bool, true, false, List, [], ◌∷◌, ◌++◌, length, map, drop, Some, refl, sym, ap, ap₂, ◌∙◌, subst, arith, append_assoc, append-nil, length-append, length-drop}
use Rattle.std.proofs.lemmas.List.{get_or_at}
use Rattle.std.specs.Prelude.{slice_index, slice_get, if◌then◌else◌}
use Rattle.dc_types.specs.declared.kind.Kind.TheVariants as kind
use Rattle.dc_types.specs.declared.place.Place.{Place}
use Rattle.dc_types.specs.declared.ty.Ty.{Ty}
use Rattle.dc_types.specs.declared.ty.Ty.TheOpen.{Ty-F}
use Rattle.dc_value.specs.declared.value.Value.{Value}
use Rattle.dc_types.specs.declared.event.Event.TheVariants.{Print}
use Rattle.dc_types.specs.declared.event.Limits.{Limits}
use Rattle.dc_code.specs.State.{Machine, On}
use Rattle.dc_code.specs.Numbers.{text_of}
use Rattle.dc_code.specs.Exec.{first_blocks}
use Rattle.dc_code.specs.declared.instr.Op.TheVariants as op
use Rattle.dc_code.specs.declared.run.Nest.{Nest}
use Rattle.dc_code.specs.declared.code.Draft.{Draft}
use Rattle.core_tree.specs.Values as tree
use Rattle.core_tree.specs.Values.{number_in, nothing, text_by, texts_of}
use Rattle.core_tree.specs.Meaning.{State, Goes, happens, printed}
use Rattle.core_tree.specs.declared.tree.Variable.{Variable}
use Rattle.core_lower_expr.specs.Lowered.{instr, kind_by, kind_of, put_ops, line_ops, print_ops}
use Rattle.core_lower_expr.proofs.Steps.{HasAt, has_front, has_back, Leads, here, leads, one}
use Rattle.core_lower_expr.proofs.Seams.{put_more}
use Rattle.core_lower_expr.proofs.Words.{same_text, line_text}
use Rattle.core_lower_expr.specs.Frames.{word}
use Rattle.core_lower_expr.proofs.Locals.{Good}
pub use Rattle.core_lower_expr.specs.Follows.{IsNumber, AreFine, values}
use Rattle.core_lower_expr.proofs.Follow.{Here, front, having, value, M, Went, Operates, fixed, front_length, operand, after}

module _ (code : Draft) (limits : Limits) (nest : Nest) (h : Here) (vars : List Variable) (fuel : ℕ) where
  -- the machine with some text pending
  abbrev printing : ℕ → ℕ → List ℕ → State → List ℕ → Machine
  printing pc taken pending s words = record {
    pc = pc;
    words = words;
    base = length h.below;
    callers = h.callers;
    nest = nest;
    blocks = first_blocks code;
    cells = 0;
    pending = pending;
    left = s.left;
    taken = taken;
    events = s.events;
  }

  abbrev more_taken : List Ty → ℕ → ℕ
  more_taken [] taken = taken
  more_taken (ty ∷ tys) taken = more_taken tys (taken + 1)

  abbrev Reads : List ℕ → ℕ → List Value → Type 0
  Reads words d [] = Unit {0}
  Reads words d (v ∷ vs) = (slice_index words (length h.below + d) ≡ word v) × Reads words (d + 1) vs

  put_text : (ty : Ty) (v : Value) (is : IsNumber ty v) → text_of (kind_of ty) (word v) ≡ tree.text_of ty v
  put_text ty v is = ap (λ x. text_of (kind_by x) (word v)) is.is ∙ same_text is.kind (number_in v) is.fine ∙ sym (ap (λ x. text_by x v) is.is)

  puts : (place : Place) (tys : List Ty) (vs : List Value) (pc d taken : ℕ) (pending words : List ℕ) (s : State) → HasAt code.instrs pc (put_ops place tys d) → AreFine tys vs → Reads words d vs →
      Leads code limits (On (printing pc taken pending s words)) (On (printing (pc + length (put_ops place tys d)) (more_taken tys taken) (pending ++ texts_of tys vs) s words))
  puts place [] [] pc d taken pending words s has fine reads = here code limits _ _ (ap₂ (λ p t. On (printing p taken t s words)) (omega arith) (sym (append-nil pending)))
  puts place [] (v ∷ vs) pc d taken pending words s has fine reads = absurd fine
  puts place (ty ∷ tys) [] pc d taken pending words s has fine reads = absurd fine
  puts place (ty ∷ tys) (v ∷ vs) pc d taken pending words s has fine reads =
      let text = tree.text_of ty v in
      let n = length (put_ops place tys (d + 1)) in
      let to_next : Leads code limits (On (printing pc taken pending s words)) (On (printing (pc + 1) (taken + 1) (pending ++ text) s words)) =
      one code limits _ (instr place (op.PutInt (kind_of ty) d)) _ has.0 (ap (λ t. On (printing (pc + 1) (taken + 1) (pending ++ t) s words)) (ap (text_of (kind_of ty)) reads.0 ∙ put_text ty v fine.0)) in
      leads code limits _ _ _ to_next
      (leads code limits _ _ _ (puts place tys vs (pc + 1) (d + 1) (taken + 1) (pending ++ text) words s has.1 fine.1 reads.1)
      (here code limits _ _ (ap₂ (λ p t. On (printing p (more_taken tys (taken + 1)) t s words)) (omega arith) (append_assoc pending text (texts_of tys vs)))))

  -- a line feed, where one is to be printed, and the flush
  ends_line : (place : Place) (line : Bool) (pc d taken : ℕ) (pending : List ℕ) (temps more : List ℕ) (s : State) → HasAt code.instrs pc (line_ops place line d ++ instr place op.Flush ∷ []) → d ≡ fixed code limits nest h vars + length temps → Good vars s.locals → 1 ≤ length more →
      Went code limits nest h vars (value Ty-F.Void) (On (printing pc taken pending s (front h s temps ++ more))) (pc + length (line_ops place line d ++ instr place op.Flush ∷ [])) temps (length more) s.left nothing (happens (Print (pending ++ (if line then 10 ∷ [] else []))) s)
  ends_line place false pc d taken pending temps more s has e good room = record {
    rest = more;
    taken = taken + 1;
    fine = tt;
    good = good;
    fills = omega arith;
    ticks = omega arith;
    by = one code limits _ (instr place op.Flush) _ has.0 (ap (λ t. On (having code limits nest h vars (pc + 1) (taken + 1) (happens (Print t) s) (front h s temps ++ more))) (sym (append-nil pending)));
  }
  ends_line place true pc d taken pending temps more s has e good room =
      let all = front h s temps ++ more in
      let rest = 10 ∷ drop 1 more in
      let m1 = printing (pc + 1) taken pending s (front h s temps ++ rest) in
      let from = On (printing pc taken pending s all) in
      let to_m1 : Leads code limits from (On m1) = one code limits (printing pc taken pending s all) (instr place (op.Const d 10)) _ has.0
      (ap (λ l. On (printing (pc + 1) taken pending s l)) (put_more (front h s temps) more (10 ∷ []) (length h.below + d) (omega (arith, front_length code limits nest h vars s temps good, e)))) in
      let word_is : slice_index m1.words (length h.below + d) ≡ 10 = operand code limits nest h vars fuel pc d taken 0 temps rest s d e good (omega arith) in
      let to_m2 : Leads code limits (On m1) (On (printing (pc + 2) (taken + 1) (pending ++ 10 ∷ []) s m1.words)) = one code limits m1 (instr place (op.PutInt kind.Char d)) _ has.1.0
      (ap₂ (λ p t. On (printing p (taken + 1) (pending ++ t) s m1.words)) (omega arith) (ap (text_of kind.Char) word_is ∙ line_text)) in
      let at2 : slice_get code.instrs (pc + 2) ≡ Some (instr place op.Flush) = subst (λ p. slice_get code.instrs p ≡ Some (instr place op.Flush)) (omega arith) has.1.1.0 in
      record {
        rest = rest;
        taken = taken + 1 + 1;
        fine = tt;
        good = good;
        fills = omega (arith, length-drop 1 more, room);
        ticks = omega arith;
        by = leads code limits from _ _ to_m1 (leads code limits _ _ _ to_m2
            (one code limits (printing (pc + 2) (taken + 1) (pending ++ 10 ∷ []) s m1.words) (instr place op.Flush) _ at2
            (ap (λ p. On (having code limits nest h vars p (taken + 1 + 1) (happens (Print (pending ++ 10 ∷ [])) s) m1.words)) (omega arith))));
      }

  reads_all : (vs : List Value) (words pre rest : List ℕ) (d : ℕ) → words ≡ pre ++ (map word vs ++ rest) → length pre ≡ length h.below + d → Reads words d vs
  reads_all [] words pre rest d e n = tt
  reads_all (v ∷ vs) words pre rest d e n = (
    ap (λ l. slice_index l (length h.below + d)) e ∙ get_or_at pre (word v) (map word vs ++ rest) 0 (length h.below + d) n,
    reads_all vs words (pre ++ word v ∷ []) rest (d + 1) (e ∙ sym (append_assoc pre (word v ∷ []) (map word vs ++ rest))) (omega (arith, n, length-append pre (word v ∷ []))),
  )

  pub print_op : (place : Place) (tys : List Ty) (line : Bool) → Operates code limits nest h vars fuel (values tys) (value Ty-F.Void) (print_ops place tys line) (printed tys line)
  print_op place tys line pc spare taken temps rest s vs has e good fine room ticks =
      let more = map word vs ++ rest in
      let all = front h s temps ++ more in
      let a = put_ops place tys spare in
      let b = line_ops place line spare ++ instr place op.Flush ∷ [] in
      let from = M code limits nest h vars pc taken s temps more in
      let low : length (front h s temps) ≡ length h.below + spare = omega (arith, front_length code limits nest h vars s temps good, e) in
      let to_mid = puts place tys vs pc spare taken [] all s (has_front code.instrs pc a b has) fine (reads_all vs all (front h s temps) rest spare refl low) in
      let g = ends_line place line (pc + length a) spare (more_taken tys taken) (texts_of tys vs) temps more s (has_back code.instrs pc a b has) e good (omega (arith, room)) in
      after code limits nest h vars (value Ty-F.Void) from _ (pc + length (a ++ b)) (pc + length a + length b) temps (length more) (length more) s.left s.left
      (Goes nothing (happens (Print (texts_of tys vs ++ (if line then 10 ∷ [] else []))) s)) to_mid (omega (arith, length-append a b)) refl (omega arith) g
