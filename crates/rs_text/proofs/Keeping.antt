-- What holds of each reader and of each fault holds of a whole reading.
use Rattle.std.proofs.Common.{◌≡◌, ℕ, ◌≤◌, List, [], ◌∷◌, length, Bool, true, false, if◌then◌else◌, Result, Ok, Err, IfOk, ◌⊎◌, inl, inr, sym, ap, subst, arith}
use Rattle.std.specs.Prelude.{IfErr}
use Rattle.rs_text.specs.declared.faults.TextFault.{TextFault}
use Rattle.rs_text.specs.declared.reading.Stop.{Stop}
use Rattle.rs_text.specs.declared.reading.Stop.TheVariants as stops
use Rattle.rs_text.specs.declared.faults.TextKind.TheVariants as kind
use Rattle.rs_text.specs.FirstFaults.{FaultRule, FirstFaultBy}
use Rattle.rs_text.specs.Lexemes.{Lexeme, is_last}
use Rattle.rs_text.specs.Lexing.{Lexed}
use Rattle.rs_text.specs.Readings.{Automaton, Reading, feed_sign, next_lexeme_of, read_all, last_of, ReadsBy, StopsBy, fault_of_stop}
use Rattle.rs_text.specs.Signs.{Sign}
use Rattle.rs_text.specs.Tokens.{IsWithin}
use Rattle.rs_text.proofs.Gaps.{true_or_false}
use Rattle.rs_text.proofs.Judging.{IsNamed, named, Judges, found, first_of}
use Rattle.rs_text.proofs.Nexts.{next_is_next, within, exists, are_lexed}

-- the bytes have tokens
pub tokens : (bytes : List ℕ) (at : ℕ) → at ≤ length bytes → (ls : List Lexeme) × Lexed bytes at ls
tokens bytes at h = let e = exists bytes at h in (e.0, are_lexed bytes e.0 at e.1)

-- a token that is taken leads from such a reader to such a one
abbrev pub Keeps : {R : Type 0} → Automaton R → (R → Type 0) → Type 0
Keeps {R} a P = (t : Sign) (at : ℕ) (n : Lexeme) (r : R) → IsNamed t → P r → IfOk (feed_sign a t at n r) P

-- tokens whose words are words
abbrev pub AllNamed : List Lexeme → Type 0
AllNamed [] = Unit {0}
AllNamed (l ∷ ls) = IsNamed l.sign × AllNamed ls

pub all_named : (bytes : List ℕ) (ls : List Lexeme) (at : ℕ) → Lexed bytes at ls → AllNamed ls
all_named bytes [] at h = tt
all_named bytes (l ∷ ls) at h = elim (true_or_false (is_last l.sign)) [
  | inl last ↦ (named bytes at l h.0, subst AllNamed (sym (h.1 last)) tt)
  | inr more ↦ (named bytes at l h.0, all_named bytes ls l.until (h.2 more))
]

abbrev pub KeptIn : {R : Type 0} → (R → Type 0) → Reading R → Type 0
KeptIn P x = P x.reader

keep_if : {R : Type 0} (P : R → Type 0) (c : Bool) (x y : Result (Reading R) TextFault) → IfOk x (KeptIn P) → IfOk y (KeptIn P) → IfOk (if c then x else y) (KeptIn P)
keep_if P true x y h k = h
keep_if P false x y h k = k

keep_all : {R : Type 0} (a : Automaton R) (P : R → Type 0) → Keeps a P → (ls : List Lexeme) (x : Result R TextFault) → AllNamed ls → IfOk x P → IfOk (read_all a x ls) (KeptIn P)
keep_all a P k [] (Err e) n h = tt
keep_all a P k (l ∷ ls) (Err e) n h = tt
keep_all a P k [] (Ok r) n h = tt
keep_all a P k (l ∷ ls) (Ok r) n h = keep_if P (a.is_read r) (Ok (record { reader = r; until = l.from })) (read_all a (feed_sign a l.sign l.from (next_lexeme_of l ls) r) ls) h
    (keep_all a P k ls (feed_sign a l.sign l.from (next_lexeme_of l ls) r) n.1 (k l.sign l.from (next_lexeme_of l ls) r n.0 h))

-- what is read is such a reader, where the first one is
pub kept : {R : Type 0} (a : Automaton R) (P : R → Type 0) → Keeps a P → (o : R) → P o → (bytes : List ℕ) (at : ℕ) (ls : List Lexeme) → Lexed bytes at ls → IfOk (read_all a (Ok o) ls) (KeptIn P)
kept a P k o h bytes at ls lexed = keep_all a P k ls (Ok o) (all_named bytes ls at lexed) h

-- what holds of a result holds of what it gives
pub if_ok : {R E : Type 0} (x : Result R E) (d : R) (P : R → Type 0) → x ≡ Ok d → IfOk x P → P d
if_ok (Ok e) d P same h = let k : e ≡ d = cc in subst P k h
if_ok (Err e) d P same h = absurd (cc same)

-- ---- offsets

abbrev pub Below : ℕ → TextFault → Type 0
Below n f = f.at ≤ n

-- a fault that is told stands no further than the token and the one behind it
abbrev pub StaysBelow : {R : Type 0} → Automaton R → Type 0
StaysBelow {R} a = (n : ℕ) (t : Sign) (at : ℕ) (next : Lexeme) (r : R) → at ≤ n → next.from ≤ n → IfErr (feed_sign a t at next r) (Below n)

abbrev AllBelow : ℕ → List Lexeme → Type 0
AllBelow n [] = Unit {0}
AllBelow n (l ∷ ls) = (l.from ≤ n) × AllBelow n ls

all_below : (bytes : List ℕ) (ls : List Lexeme) (at : ℕ) → at ≤ length bytes → Lexed bytes at ls → AllBelow (length bytes) ls
all_below bytes [] at b h = tt
all_below bytes (l ∷ ls) at b h =
    let w : IsWithin bytes at l = within bytes at l b (rw h.0 (next_is_next bytes at)) in
    let order = w.order in
    let inside = w.inside in
    let here : l.from ≤ length bytes = omega arith in
    elim (true_or_false (is_last l.sign)) [
      | inl last ↦ (here, subst (λ (z : List Lexeme). AllBelow (length bytes) z) (sym (h.1 last)) tt)
      | inr more ↦ (here, all_below bytes ls l.until inside (h.2 more))
    ]

next_below : (n : ℕ) (l : Lexeme) (ls : List Lexeme) → l.from ≤ n → AllBelow n ls → (next_lexeme_of l ls).from ≤ n
next_below n l [] h k = h
next_below n l (x ∷ xs) h k = k.0

below_read : {R : Type 0} (n : ℕ) (c : Bool) (x y : Result (Reading R) TextFault) → IfErr x (Below n) → IfErr y (Below n) → IfErr (if c then x else y) (Below n)
below_read n true x y h k = h
below_read n false x y h k = k

below_all : {R : Type 0} (a : Automaton R) → StaysBelow a → (n : ℕ) (ls : List Lexeme) (x : Result R TextFault) → AllBelow n ls → IfErr x (Below n) → IfErr (read_all a x ls) (Below n)
below_all a s n [] (Err e) b h = h
below_all a s n (l ∷ ls) (Err e) b h = h
below_all a s n [] (Ok r) b h = omega arith
below_all a s n (l ∷ ls) (Ok r) b h = below_read n (a.is_read r) (Ok (record { reader = r; until = l.from })) (read_all a (feed_sign a l.sign l.from (next_lexeme_of l ls) r) ls) tt
    (below_all a s n ls (feed_sign a l.sign l.from (next_lexeme_of l ls) r) b.1 (s n l.sign l.from (next_lexeme_of l ls) r b.0 (next_below n l ls b.0 b.1)))

fault_within : {R : Type 0} (a : Automaton R) → StaysBelow a → (o : R) (bytes : List ℕ) (at : ℕ) (f : TextFault) → at ≤ length bytes → ReadsBy a o bytes at (Err f) → f.at ≤ length bytes
fault_within {R} a s o bytes at f h p =
    let t = tokens bytes at h in
    subst (λ (z : Result (Reading R) TextFault). IfErr z (Below (length bytes))) (p t.0 t.1) (below_all a s (length bytes) t.0 (Ok o) (all_below bytes t.0 at h t.1) tt)

-- what is told stands within the text
pub told_within : {R : Type 0} (a : Automaton R) → StaysBelow a → (s : Stop) (o : R) (bytes : List ℕ) (at : ℕ) (f : TextFault) → f ≡ fault_of_stop s at → at ≤ length bytes → StopsBy a s o bytes at
    → f.at ≤ length bytes
told_within a b stops.Memory o bytes at f e h p = subst (λ (k : ℕ). k ≤ length bytes) (sym (ap (λ z. z.at) e)) h
told_within a b (stops.Fault g) o bytes at f e h p = subst (λ (k : ℕ). k ≤ length bytes) (sym (ap (λ z. z.at) e)) (fault_within a b o bytes at g h p)

-- ---- refusals

-- what is told of a reading that stops is the first fault of the text, or want of memory
pub refused : {R : Type 0} {a : Automaton R} {rule : FaultRule} {At : List Sign → Sign → R → Type 1} {Left : List Sign → R → Type 0} (j : Judges a rule At Left) (o : R) → ((t : Sign) → At [] t o)
    → (s : Stop) (bytes : List ℕ) (at : ℕ) (e : TextFault) → e ≡ fault_of_stop s at → at ≤ length bytes → StopsBy a s o bytes at
    → (e.kind ≡ kind.NoMemory) ⊎ FirstFaultBy rule bytes at e.kind e.at
refused j o begins stops.Memory bytes at e same within h = inl (ap (λ (z : TextFault). z.kind) same)
refused {R} {a} {rule} {At} {Left} j o begins (stops.Fault f) bytes at e same within h =
    let t = tokens bytes at within in
    inr (subst (λ (z : TextFault). FirstFaultBy rule bytes at z.kind z.at) (sym same)
    (first_of rule Left bytes at t.0 f (last_of a o (Ok o) t.0) t.1 (found j o bytes at t.0 f begins t.1 (h t.0 t.1))))
