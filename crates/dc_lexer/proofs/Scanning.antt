-- The list of the tokens, and that it is one.
use Rattle.std.proofs.Common.{◌≡◌, ◌≢◌, ℕ, suc, ◌+◌, ◌<◌, ◌≤◌, Bool, true, false, cond, ◌&&◌, ◌==◌, List, [], ◌∷◌, ◌++◌, length, take, drop, refl, sym, ap, subst, ◌∙◌, append_assoc, append-nil, arith, length-drop}
use Rattle.std.proofs.lemmas.List.{length-take-le}
use Rattle.dc_token.specs.Balance.{Bytes}
use Rattle.dc_token.proofs.Lists.{rests, drop_more}
use Rattle.dc_lexer.specs.Fronts.{Found}
use Rattle.dc_token.specs.Text.{mark_len, ReadsAs, StuckAt, IsTokens, IsUnreadable, Cut, Rebuilt, Reads, Stuck, is_token, token}
use Rattle.dc_token.specs.Items.{Next, Spells}
use Rattle.dc_lexer.proofs.Starts.{starts}
use Rattle.dc_token.specs.declared.item.Item.{Item}
use Rattle.dc_token.specs.declared.token.Token.{Token}

-- what is left of a list of tokens behind those that were found
pub record Left (z : Bytes) (at : ℕ) (found us : List Token) : Type 0 where
  pub more : List Token
  pub parts : us ≡ found ++ more
  pub reads : Reads at (drop at z) more

pub next_size : (P : Item → Bytes → Bytes → Type 0) (t : Bytes) (k j : Item) (w v u x : Bytes) → Next P t k w u → Next P t j v x → length w ≡ length v
next_size P t k j w v u x a b = let m = a.longest j v x b.parts b.is in let n = b.longest k w u a.parts a.is in omega arith

pub next_rest : (P : Item → Bytes → Bytes → Type 0) (t : Bytes) (k j : Item) (w v u x : Bytes) → Next P t k w u → Next P t j v x → u ≡ x
next_rest P t k j w v u x a b = rests w v u x (sym a.parts ∙ b.parts) (next_size P t k j w v u x a b)

fronts : (w v u x : Bytes) → w ++ u ≡ v ++ x → length w ≡ length v → w ≡ v
fronts [] [] u x e h = refl
fronts [] (c ∷ v) u x e h = absurd (omega arith)
fronts (b ∷ w) [] u x e h = absurd (omega arith)
fronts (b ∷ w) (c ∷ v) u x e h = let f : w ++ u ≡ v ++ x = cc in let g : length w ≡ length v = omega arith in let k = fronts w v u x f g in cc

pub next_word : (P : Item → Bytes → Bytes → Type 0) (t : Bytes) (k j : Item) (w v u x : Bytes) → Next P t k w u → Next P t j v x → w ≡ v
next_word P t k j w v u x a b = fronts w v u x (sym a.parts ∙ b.parts) (next_size P t k j w v u x a b)

-- the tokens so far, and what is left of the text
pub record Scan (z : Bytes) (at : ℕ) (found : List Token) : Type 0 where
  pub within : at ≤ length z
  pub reads : (more : List Token) → Reads at (drop at z) more → ReadsAs z (found ++ more)
  pub stuck : (n : ℕ) → Stuck at (drop at z) n → StuckAt z n
  pub only : (us : List Token) → ReadsAs z us → Left z at found us
  pub only_stuck : (n : ℕ) → StuckAt z n → Stuck at (drop at z) n

mark_within : (z : Bytes) → mark_len z ≤ length z
mark_within [] = omega arith
mark_within (a ∷ []) = omega arith
mark_within (a ∷ b ∷ []) = omega arith
mark_within (a ∷ b ∷ c ∷ t) = go (a == 239 && b == 187 && c == 191)
  where
    go : (x : Bool) → cond x 3 0 ≤ suc (suc (suc (length t)))
    go true = omega arith
    go false = omega arith

pub scan_start : (z : Bytes) (at : ℕ) → at ≡ mark_len z → Scan z at []
scan_start z at e = rw e (record { within = mark_within z; reads = λ more r. r; stuck = λ n s. s; only = λ us r. record { more = us; parts = refl; reads = r }; only_stuck = λ n s. s })

record Step (z : Bytes) (at size : ℕ) (kind : Item) : Type 0 where
  within : at + size ≤ length z
  next : Next Spells (drop at z) kind (take size (drop at z)) (drop (at + size) z)
  size_is : at + length (take size (drop at z)) ≡ at + size

step : (z : Bytes) (at size : ℕ) (kind : Item) → Found Spells (drop at z) (kind, size) → at ≤ length z → 0 < size → Step z at size kind
step z at size kind f h some =
    let w = f.within in
    let l = length-drop at z in
    record { within = omega arith; next = subst (λ (x : Bytes). Next Spells (drop at z) kind (take size (drop at z)) x) (drop_more size at z) (f.next some); size_is = ap (λ (x : ℕ). at + x) (length-take-le size (drop at z) w) }

space_back : (z : Bytes) (at size : ℕ) (kind : Item) → Found Spells (drop at z) (kind, size) → 0 < size → Step z at size kind → is_token kind ≡ false → (us : List Token) (t : Bytes) → t ≡ drop at z → Reads at t us → Reads (at + size) (drop (at + size) z) us
space_back z at size kind f some p is us t eq Reads.end = let w = f.within in absurd (let l : 0 ≡ length (drop at z) = ap (λ (x : Bytes). length x) eq in omega arith)
space_back z at size kind f some p is us t eq (Reads.space {kind = k} {w = w} {rest = rest} n nay r) =
    let m : Next Spells (drop at z) k w rest = subst (λ (x : Bytes). Next Spells x k w rest) eq n in
    let a : at + length w ≡ at + size = ap (λ (x : ℕ). at + x) (next_size Spells (drop at z) k kind w (take size (drop at z)) rest (drop (at + size) z) m p.next) ∙ p.size_is in
    subst (λ (x : ℕ). Reads x (drop (at + size) z) us) a (subst (λ (x : Bytes). Reads (at + length w) x us) (next_rest Spells (drop at z) k kind w (take size (drop at z)) rest (drop (at + size) z) m p.next) r)
space_back z at size kind f some p is us t eq (Reads.token_then {kind = k} {w = w} {rest = rest} n yea r) =
    let m : Next Spells (drop at z) k w rest = subst (λ (x : Bytes). Next Spells x k w rest) eq n in
    let e = f.sole some k w rest m in
    absurd (let g : is_token kind ≡ true = subst (λ x. is_token x ≡ true) e yea in let nay : false ≡ true = sym is ∙ g in cc)

record Shift (z : Bytes) (at size : ℕ) (kind : Item) (us : List Token) : Type 0 where
  more : List Token
  parts : us ≡ token kind (take size (drop at z)) at ∷ more
  reads : Reads (at + size) (drop (at + size) z) more

token_back : (z : Bytes) (at size : ℕ) (kind : Item) → Found Spells (drop at z) (kind, size) → 0 < size → Step z at size kind → is_token kind ≡ true → (us : List Token) (t : Bytes) → t ≡ drop at z → Reads at t us → Shift z at size kind us
token_back z at size kind f some p is us t eq Reads.end = let w = f.within in absurd (let l : 0 ≡ length (drop at z) = ap (λ (x : Bytes). length x) eq in omega arith)
token_back z at size kind f some p is us t eq (Reads.space {kind = k} {w = w} {rest = rest} n nay r) =
    let m : Next Spells (drop at z) k w rest = subst (λ (x : Bytes). Next Spells x k w rest) eq n in
    let e = f.sole some k w rest m in
    absurd (let g : is_token kind ≡ false = subst (λ x. is_token x ≡ false) e nay in let b : false ≡ true = sym g ∙ is in cc)
token_back z at size kind f some p is us t eq (Reads.token_then {kind = k} {w = w} {rest = rest} {ts = ts} n yea r) =
    let m : Next Spells (drop at z) k w rest = subst (λ (x : Bytes). Next Spells x k w rest) eq n in
    let a : at + length w ≡ at + size = ap (λ (x : ℕ). at + x) (next_size Spells (drop at z) k kind w (take size (drop at z)) rest (drop (at + size) z) m p.next) ∙ p.size_is in
    let e = f.sole some k w rest m in
    record {
      more = ts;
      parts = ap (λ x. token x w at ∷ ts) e ∙ ap (λ (x : Bytes). token kind x at ∷ ts) (next_word Spells (drop at z) k kind w (take size (drop at z)) rest (drop (at + size) z) m p.next);
      reads = subst (λ (x : ℕ). Reads x (drop (at + size) z) ts) a (subst (λ (x : Bytes). Reads (at + length w) x ts) (next_rest Spells (drop at z) k kind w (take size (drop at z)) rest (drop (at + size) z) m p.next) r);
    }

stuck_back : (z : Bytes) (at size : ℕ) (kind : Item) → Step z at size kind → (n : ℕ) (t : Bytes) → t ≡ drop at z → Stuck at t n → Stuck (at + size) (drop (at + size) z) n
stuck_back z at size kind p n t eq (Stuck.here some none) = absurd (none kind (take size (drop at z)) (drop (at + size) z) (subst (λ (x : Bytes). Next Spells x kind (take size (drop at z)) (drop (at + size) z)) (sym eq) p.next))
stuck_back z at size kind p n t eq (Stuck.later {kind = k} {w = w} {rest = rest} m s) =
    let m2 : Next Spells (drop at z) k w rest = subst (λ (x : Bytes). Next Spells x k w rest) eq m in
    let a : at + length w ≡ at + size = ap (λ (x : ℕ). at + x) (next_size Spells (drop at z) k kind w (take size (drop at z)) rest (drop (at + size) z) m2 p.next) ∙ p.size_is in
    subst (λ (x : ℕ). Stuck x (drop (at + size) z) n) a (subst (λ (x : Bytes). Stuck (at + length w) x n) (next_rest Spells (drop at z) k kind w (take size (drop at z)) rest (drop (at + size) z) m2 p.next) s)

pub scan_space : (z : Bytes) (at size : ℕ) (kind : Item) (found : List Token) → Scan z at found → Found Spells (drop at z) (kind, size) → 0 < size → is_token kind ≡ false → Scan z (at + size) found
scan_space z at size kind found s f some is =
    let p = step z at size kind f s.within some in
    record {
      within = p.within;
      reads = λ more r. s.reads more (Reads.space p.next is (subst (λ x. Reads x (drop (at + size) z) more) (sym p.size_is) r));
      stuck = λ n r. s.stuck n (Stuck.later p.next (subst (λ x. Stuck x (drop (at + size) z) n) (sym p.size_is) r));
      only = λ us r. (let l = s.only us r in record { more = l.more; parts = l.parts; reads = space_back z at size kind f some p is l.more (drop at z) refl l.reads });
      only_stuck = λ n r. stuck_back z at size kind p n (drop at z) refl (s.only_stuck n r);
    }

pub scan_token : (z : Bytes) (at size : ℕ) (kind : Item) (found : List Token) → Scan z at found → Found Spells (drop at z) (kind, size) → 0 < size → is_token kind ≡ true → Scan z (at + size) (found ++ (token kind (take size (drop at z)) at ∷ []))
scan_token z at size kind found s f some is =
    let p = step z at size kind f s.within some in
    record {
      within = p.within;
      reads = λ more r.
          let a : Reads at (drop at z) (token kind (take size (drop at z)) at ∷ more) = Reads.token_then p.next is (subst (λ x. Reads x (drop (at + size) z) more) (sym p.size_is) r) in
          rw append_assoc (s.reads (token kind (take size (drop at z)) at ∷ more) a);
      stuck = λ n r. s.stuck n (Stuck.later p.next (subst (λ x. Stuck x (drop (at + size) z) n) (sym p.size_is) r));
      only = λ us r. (
          let l = s.only us r in
          let b = token_back z at size kind f some p is l.more (drop at z) refl l.reads in
          record { more = b.more; parts = l.parts ∙ ap (λ (x : List Token). found ++ x) b.parts ∙ sym (append_assoc found (token kind (take size (drop at z)) at ∷ []) b.more); reads = b.reads });
      only_stuck = λ n r. stuck_back z at size kind p n (drop at z) refl (s.only_stuck n r);
    }

empty : (t : Bytes) → length t ≡ 0 → t ≡ []
empty [] h = refl
empty (b ∷ t) h = absurd (omega arith)

pub no_next : (t : Bytes) (k : Item) (w rest : Bytes) → t ≡ [] → Next Spells t k w rest → ⊥
no_next t k w rest e n =
    let b = starts k w rest n.is.spells in
    let l : 0 ≡ suc (length (b.tail ++ rest)) = ap (λ (x : Bytes). length x) (sym e ∙ n.parts ∙ ap (λ (x : Bytes). x ++ rest) b.parts) in absurd (omega arith)

pub end_only : (at : ℕ) (t : Bytes) (us : List Token) → t ≡ [] → Reads at t us → us ≡ []
end_only at t us e Reads.end = refl
end_only at t us e (Reads.space {kind = k} {w = w} {rest = rest} n nay r) = absurd (no_next t k w rest e n)
end_only at t us e (Reads.token_then {kind = k} {w = w} {rest = rest} n yea r) = absurd (no_next t k w rest e n)

end_unstuck : (at n : ℕ) (t : Bytes) → t ≡ [] → Stuck at t n → ⊥
end_unstuck at n t e (Stuck.here some nay) = some e
end_unstuck at n t e (Stuck.later {kind = k} {w = w} {rest = rest} m s) = no_next t k w rest e m

pub scan_end : (z : Bytes) (at : ℕ) (found : List Token) → Scan z at found → length z ≤ at → IsTokens z found
scan_end z at found s h =
    let l = length-drop at z in
    let none : length (drop at z) ≡ 0 = omega arith in
    let e : drop at z ≡ [] = empty (drop at z) none in
    record {
      reads = rw (← append-nil found) (s.reads [] (subst (λ (x : Bytes). Reads at x []) (sym e) Reads.end));
      only = λ us r. (let l = s.only us r in l.parts ∙ ap (λ (x : List Token). found ++ x) (end_only at (drop at z) l.more e l.reads) ∙ append-nil found);
      stuck_none = λ n r. end_unstuck at n (drop at z) e (s.only_stuck n r);
    }

stuck_only : (at : ℕ) (t : Bytes) (n : ℕ) → ((kind : Item) (w rest : Bytes) → Next Spells t kind w rest → ⊥) → Stuck at t n → n ≡ at
stuck_only at t n none (Stuck.here some nay) = refl
stuck_only at t n none (Stuck.later {kind = k} {w = w} {rest = rest} m s) = absurd (none k w rest m)

reads_none : (at : ℕ) (t : Bytes) (us : List Token) → t ≢ [] → ((kind : Item) (w rest : Bytes) → Next Spells t kind w rest → ⊥) → Reads at t us → ⊥
reads_none at t us some none Reads.end = some refl
reads_none at t us some none (Reads.space {kind = k} {w = w} {rest = rest} n nay r) = none k w rest n
reads_none at t us some none (Reads.token_then {kind = k} {w = w} {rest = rest} n yea r) = none k w rest n

pub scan_stuck : (z : Bytes) (at : ℕ) (found : List Token) (kind : Item) → Scan z at found → at < length z → Found Spells (drop at z) (kind, 0) → IsUnreadable z at
scan_stuck z at found kind s h f =
    let some : drop at z ≢ [] = λ e. (let l = length-drop at z in let k : length (drop at z) ≡ 0 = ap (λ (x : Bytes). length x) e in absurd (omega arith)) in
    record {
      stuck = s.stuck at (Stuck.here some (f.none refl));
      only = λ n r. stuck_only at (drop at z) n (f.none refl) (s.only_stuck n r);
      within = h;
      reads_none = λ us r. (let l = s.only us r in reads_none at (drop at z) l.more some (f.none refl) l.reads);
    }

-- ---- laws

step_apart : (at n : ℕ) (t : Bytes) (k : Item) (w rest : Bytes) → Next Spells t k w rest → Stuck at t n → Stuck (at + length w) rest n
step_apart at n t k w rest m (Stuck.here some nay) = absurd (nay k w rest m)
step_apart at n t k w rest m (Stuck.later {kind = j} {w = v} {rest = x} l s) =
    subst (λ (y : ℕ). Stuck (at + y) rest n) (next_size Spells t j k v w x rest l m) (subst (λ (y : Bytes). Stuck (at + length v) y n) (next_rest Spells t j k v w x rest l m) s)

pub rebuilt : (at : ℕ) (t : Bytes) (ts : List Token) → Reads at t ts → Rebuilt at t ts
rebuilt at t ts Reads.end = record { pieces = []; whole = refl; tokens = refl; cut = Cut.none }
rebuilt at t ts (Reads.space {kind = k} {w = w} {rest = rest} n nay r) =
    let b = rebuilt (at + length w) rest ts r in
    record { pieces = (k, w) ∷ b.pieces; whole = ap (λ (x : Bytes). w ++ x) b.whole ∙ sym n.parts; tokens = rw nay b.tokens; cut = Cut.more n b.cut }
rebuilt at t ts (Reads.token_then {kind = k} {w = w} {rest = rest} {ts = us} n yea r) =
    let b = rebuilt (at + length w) rest us r in
    record { pieces = (k, w) ∷ b.pieces; whole = ap (λ (x : Bytes). w ++ x) b.whole ∙ sym n.parts; tokens = rw yea (ap (λ (x : List Token). token k w at ∷ x) b.tokens); cut = Cut.more n b.cut }

pub apart : (at n : ℕ) (t : Bytes) (ts : List Token) → Reads at t ts → Stuck at t n → ⊥
apart at n t ts Reads.end s = end_unstuck at n [] refl s
apart at n t ts (Reads.space {kind = k} {w = w} {rest = rest} m nay r) s = apart (at + length w) n rest ts r (step_apart at n t k w rest m s)
apart at n t ts (Reads.token_then {kind = k} {w = w} {rest = rest} {ts = us} m yea r) s = apart (at + length w) n rest us r (step_apart at n t k w rest m s)

pub one_stop : (at n m : ℕ) (t : Bytes) → Stuck at t n → Stuck at t m → m ≡ n
one_stop at n m t (Stuck.here some nay) s = stuck_only at t m nay s
one_stop at n m t (Stuck.later {kind = k} {w = w} {rest = rest} l r) s = one_stop (at + length w) n m rest r (step_apart at m t k w rest l s)
