-- Laws of several puts.
use Rattle.std.proofs.Common.{ℕ, List, [], ◌++◌, Option, Some, None, refl, ap, sym, ◌∙◌, append-nil, append_assoc, subst}
use Rattle.std.specs.Io.KnownBytes.{Appends, Keeps}
use Rattle.dc_edge.specs.Sink.{AppendsFront}
use Rattle.dc_edge.specs.Puts.{Went}

keeps_appends : (a b : Option (List ℕ)) → Keeps a b → Appends a b []
keeps_appends None b k = tt
keeps_appends (Some xs) None k = k
keeps_appends (Some xs) (Some ys) k = k ∙ sym (append-nil xs)

same_appends : (a : Option (List ℕ)) → Appends a a []
same_appends None = tt
same_appends (Some xs) = sym (append-nil xs)

appends_more : (a b c : Option (List ℕ)) (x y : List ℕ) → Appends a b x → Appends b c y → Appends a c (x ++ y)
appends_more None b c x y p q = tt
appends_more (Some xs) None c x y p q = absurd p
appends_more (Some xs) (Some ys) None x y p q = q
appends_more (Some xs) (Some ys) (Some zs) x y p q = q ∙ ap (λ l. l ++ y) p ∙ append_assoc xs x y

pub went_start : (a : Option (List ℕ)) (whole : List ℕ) → Went a a whole whole
went_start a whole = record { written = []; appended = same_appends a; together = refl }

pub went_on : (a b c : Option (List ℕ)) (x rest whole : List ℕ) → Went a b (x ++ rest) whole → Appends b c x → Went a c rest whole
went_on a b c x rest whole w p = record {
  written = w.written ++ x;
  appended = appends_more a b c w.written x w.appended p;
  together = append_assoc w.written x rest ∙ w.together;
}

pub went_all : (a b : Option (List ℕ)) (whole : List ℕ) → Went a b [] whole → Appends a b whole
went_all a b whole w = subst (Appends a b) (sym (append-nil w.written) ∙ w.together) w.appended

pub went_stop : (a b : Option (List ℕ)) (rest whole : List ℕ) → Went a b rest whole → AppendsFront a b whole
went_stop a b rest whole w = record { front = w.written; back = rest; split = sym w.together; appended = w.appended }

pub went_kept : (a b c : Option (List ℕ)) (rest whole : List ℕ) → Went a b rest whole → Keeps b c → AppendsFront a c whole
went_kept a b c rest whole w k = record {
  front = w.written;
  back = rest;
  split = sym w.together;
  appended = subst (Appends a c) (append-nil w.written) (appends_more a b c w.written [] w.appended (keeps_appends b c k));
}

pub went_front : (a b c : Option (List ℕ)) (x rest whole : List ℕ) → Went a b (x ++ rest) whole → AppendsFront b c x → AppendsFront a c whole
went_front a b c x rest whole w p = record {
  front = w.written ++ p.front;
  back = p.back ++ rest;
  split = sym w.together ∙ ap (λ l. w.written ++ (l ++ rest)) p.split ∙ ap (λ l. w.written ++ l) (append_assoc p.front p.back rest) ∙ sym (append_assoc w.written p.front (p.back ++ rest));
  appended = appends_more a b c w.written p.front w.appended p.appended;
}

pub kept_front : (a b : Option (List ℕ)) (whole : List ℕ) → Keeps a b → AppendsFront a b whole
kept_front a b whole k = went_kept a a b whole whole (went_start a whole) k

pub no_front : (a : Option (List ℕ)) (whole : List ℕ) → AppendsFront a a whole
no_front a whole = went_stop a a whole whole (went_start a whole)

pub same_keeps : (a : Option (List ℕ)) → Keeps a a
same_keeps None = tt
same_keeps (Some xs) = refl

pub ruleset several = (went_start, went_on, went_all, went_stop, went_kept, went_front)

pub ruleset single = (same_keeps, kept_front, no_front)
