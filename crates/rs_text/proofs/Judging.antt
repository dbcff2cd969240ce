-- The fault that a reader tells is the first one of the text, and a text that is read has none: for any kind of reader of
-- which it is known what it says of one token.
use Rattle.std.proofs.Common.{◌≡◌, ℕ, ◌≤◌, List, [], ◌∷◌, ◌++◌, Bool, true, false, if◌then◌else◌, Result, Ok, Err, refl, sym, ap, ◌∙◌, subst, ◌⊎◌, inl, inr, append_assoc, append-nil, arith}
use Rattle.std.proofs.Common.{codes, ◌&&◌, not}
use Rattle.std.specs.Str.{bytes_eq}
use Rattle.rs_text.specs.declared.tokens.FaultKind.{FaultKind}
use Rattle.rs_text.specs.declared.faults.TextFault.{TextFault}
use Rattle.rs_text.specs.declared.faults.TextKind.{TextKind}
use Rattle.rs_text.specs.declared.faults.TextKind.TheVariants as kind
use Rattle.rs_text.specs.Faults.{kind_number}
use Rattle.rs_text.specs.FirstFaults.{FaultRule, IsWhole, IsClear, AllClear, FirstFaultBy, sign_after}
use Rattle.rs_text.specs.Lexemes.{Lexeme, signs_of, is_last}
use Rattle.rs_text.specs.Lexing.{Lexed, next_lexeme}
use Rattle.rs_text.specs.Readings.{Automaton, Reading, feed_sign, next_lexeme_of, read_all, last_of, StopsAtEnd}
use Rattle.rs_text.specs.Signs.{Sign, rec_word, end_word, plain, broken, finish, word_sign}
use Rattle.rs_text.specs.Tokens.{IsNext}
use Rattle.rs_text.specs.Words.{is_word, is_role_word}
use Rattle.rs_text.proofs.Gaps.{true_or_false}
use Rattle.rs_text.proofs.Leading.{sign_behind, lexeme, Tells, Exact}
use Rattle.rs_text.proofs.Nexts.{next_is_next, plain_law, one_list}

-- a word other than rec and end can be a role's name
abbrev pub IsNamed : Sign → Type 0
IsNamed t = (name : List ℕ) → t ≡ plain name → is_role_word name ≡ true

pub named : (bytes : List ℕ) (now : ℕ) (l : Lexeme) → l ≡ next_lexeme bytes now → IsNamed l.sign
named bytes now l h = λ name e. plain_law bytes now l name (subst (λ (z : Lexeme). IsNext bytes now z) (sym h) (next_is_next bytes now)) e

-- a word has its own sign: rec and end are never plain
abbrev pub IsProper : Sign → Type 0
IsProper (plain text) = word_sign text ≡ plain text
IsProper _ = Unit {0}

proper_if : (a b c : Bool) (text : List ℕ) → (a && (not b && not c)) ≡ true → (if b then rec_word else if c then end_word else plain text) ≡ plain text
proper_if true true c text h = cc
proper_if true false true text h = cc
proper_if true false false text h = refl
proper_if false b c text h = cc

pub proper_word : (text : List ℕ) → is_role_word text ≡ true → word_sign text ≡ plain text
proper_word text h = proper_if (is_word text) (bytes_eq text (codes "rec")) (bytes_eq text (codes "end")) text h

pub proper_sign : (s : Sign) → IsNamed s → IsProper s
proper_sign (plain text) h = proper_word text (h text refl)
proper_sign _ h = tt

-- a token is faulty or not
pub data Wholeness : Sign → Type 0 where
  a_faulty : (k : FaultKind) → Wholeness (broken k)
  a_whole : (t : Sign) → IsWhole t → Wholeness t

pub wholeness : (t : Sign) → Wholeness t
wholeness (broken k) = a_faulty k
wholeness t = a_whole t tt

-- the token has this fault and no other
pub record Here (rule : FaultRule) (xs : List Sign) (t : Sign) (at : ℕ) (u : Sign) (e : TextFault) : Type 0 where
  pub at_is : e.at ≡ at
  pub fault : rule xs t u e.kind
  pub only : (k : TextKind) → rule xs t u k → k ≡ e.kind

-- the token has no fault, and the next one is a faulty token: this is its fault
pub record Ahead {R : Type 0} (rule : FaultRule) (Left : List Sign → R → Type 0) (r : R) (xs : List Sign) (t : Sign) (n : Lexeme) (e : TextFault) : Type 0 where
  pub kind : FaultKind
  pub broken_is : n.sign ≡ broken kind
  pub clear : IsClear rule xs t n.sign
  pub later : (u : Sign) → Here rule (xs ++ t ∷ []) n.sign n.from u e
  pub left : Left (xs ++ t ∷ []) r

abbrev pub Verdict : {R : Type 0} → FaultRule → (List Sign → R → Type 0) → R → List Sign → Sign → ℕ → Lexeme → Result R TextFault → Type 0
Verdict rule Left r xs t at n (Ok d) = IsClear rule xs t n.sign
Verdict rule Left r xs t at n (Err e) = Here rule xs t at n.sign e ⊎ Ahead rule Left r xs t n e

-- what is known of a kind of reader. `At xs t r` says that r stands behind the tokens xs and before t; `Left xs r` what the
-- reader leaves behind the tokens xs
pub record Judges {R : Type 0} (a : Automaton R) (rule : FaultRule) (At : List Sign → Sign → R → Type 1) (Left : List Sign → R → Type 0) : Type 1 where
  pub ends : StopsAtEnd a
  pub taken : (xs : List Sign) (t : Sign) (at : ℕ) (n : Lexeme) (r d : R) → At xs t r → IsNamed t → a.is_read r ≡ false → feed_sign a t at n r ≡ Ok d → At (xs ++ t ∷ []) n.sign d
  pub left : (xs : List Sign) (t : Sign) (r : R) → At xs t r → Left xs r
  pub verdict : (xs : List Sign) (t : Sign) (at : ℕ) (n : Lexeme) (r : R) → At xs t r → IsNamed t → a.is_read r ≡ false → Verdict rule Left r xs t at n (feed_sign a t at n r)
  pub behind : (xs : List Sign) (t u : Sign) (r : R) (k : TextKind) → At xs t r → a.is_read r ≡ true → rule xs t u k → ⊥
  pub beyond : (xs : List Sign) (t : Sign) (ys : List Sign) (s u : Sign) (r : R) (k : TextKind) → At xs t r → a.is_read r ≡ true → IsWhole t → rule (xs ++ (t ∷ ys)) s u k → ⊥

-- ---- the end and faulty tokens

last_same : {R : Type 0} {a : Automaton R} (s : StopsAtEnd a) (t : Sign) (at : ℕ) (n k : Lexeme) (r : R) → is_last t ≡ true → feed_sign a t at n r ≡ feed_sign a t at k r
last_same s finish at n k r h = s.same at n k r
last_same s (broken j) at n k r h = refl
last_same s _ at n k r h = cc

last_faulty : {R : Type 0} {a : Automaton R} (s : StopsAtEnd a) (t : Sign) (at : ℕ) (n : Lexeme) (r d : R) → is_last t ≡ true → feed_sign a t at n r ≡ Ok d → ⊥
last_faulty s finish at n r d h e = s.never at n r d e
last_faulty s (broken j) at n r d h e = cc
last_faulty s _ at n r d h e = cc

unread_if : {R : Type 0} (c : Bool) (x : Reading R) (y : Result (Reading R) TextFault) (e : TextFault) → (if c then Ok x else y) ≡ Err e → (c ≡ false) × (y ≡ Err e)
unread_if true x y e h = cc
unread_if false x y e h = (refl, h)

pub signs_append : (xs ys : List Lexeme) → signs_of (xs ++ ys) ≡ signs_of xs ++ signs_of ys
signs_append [] ys = refl
signs_append (x ∷ xs) ys = ap (λ z. x.sign ∷ z) (signs_append xs ys)

-- ---- the fault that is told

-- the first fault among the tokens behind these, the only one of its token, and what the reader leaves there
pub record Found {R : Type 0} (rule : FaultRule) (Left : List Sign → R → Type 0) (before : List Sign) (ls : List Lexeme) (kind : TextKind) (offset : ℕ) (last : R) : Type 0 where
  pub xs : List Lexeme
  pub t : Lexeme
  pub ys : List Lexeme
  pub split : ls ≡ xs ++ t ∷ ys
  pub stands : t.from ≡ offset
  pub fault : rule (before ++ signs_of xs) t.sign (sign_after (signs_of ys)) kind
  pub clear : AllClear rule before (signs_of xs) (signs_of (t ∷ ys))
  pub only : (k : TextKind) → rule (before ++ signs_of xs) t.sign (sign_after (signs_of ys)) k → k ≡ kind
  pub left : Left (before ++ signs_of xs) last

found_here : {R : Type 0} (rule : FaultRule) (Left : List Sign → R → Type 0) (xs : List Sign) (l : Lexeme) (ls : List Lexeme) (g e : TextFault) (r : R) → g ≡ e → Left xs r
    → Here rule xs l.sign l.from (sign_after (signs_of ls)) g → Found rule Left xs (l ∷ ls) e.kind e.at r
found_here rule Left xs l ls g e r same left h = subst (λ (z : TextFault). Found rule Left xs (l ∷ ls) z.kind z.at r) same (record {
  xs = [];
  t = l;
  ys = ls;
  split = refl;
  stands = sym h.at_is;
  fault = subst (λ (z : List Sign). rule z l.sign (sign_after (signs_of ls)) g.kind) (sym (append-nil xs)) h.fault;
  clear = tt;
  only = λ k f. h.only k (subst (λ (z : List Sign). rule z l.sign (sign_after (signs_of ls)) k) (append-nil xs) f);
  left = subst (λ (z : List Sign). Left z r) (sym (append-nil xs)) left;
})

found_later : {R : Type 0} (rule : FaultRule) (Left : List Sign → R → Type 0) (xs : List Sign) (l : Lexeme) (ls : List Lexeme) (kind : TextKind) (at : ℕ) (last : R)
    → IsClear rule xs l.sign (sign_after (signs_of ls)) → Found rule Left (xs ++ l.sign ∷ []) ls kind at last → Found rule Left xs (l ∷ ls) kind at last
found_later rule Left xs l ls kind at last c h =
    let signs : signs_of ls ≡ signs_of h.xs ++ signs_of (h.t ∷ h.ys) = ap signs_of h.split ∙ signs_append h.xs (h.t ∷ h.ys) in
    let shape : (xs ++ l.sign ∷ []) ++ signs_of h.xs ≡ xs ++ (l.sign ∷ signs_of h.xs) = append_assoc xs (l.sign ∷ []) (signs_of h.xs) in
    record {
      xs = l ∷ h.xs;
      t = h.t;
      ys = h.ys;
      split = ap (λ z. l ∷ z) h.split;
      stands = h.stands;
      fault = subst (λ (z : List Sign). rule z h.t.sign (sign_after (signs_of h.ys)) kind) shape h.fault;
      clear = ((λ j f. c j (subst (λ (z : List Sign). rule xs l.sign (sign_after z) j) (sym signs) f)), h.clear);
      only = λ j f. h.only j (subst (λ (z : List Sign). rule z h.t.sign (sign_after (signs_of h.ys)) j) (sym shape) f);
      left = subst (λ (z : List Sign). Left z last) shape h.left;
    }

err_same : {R : Type 0} (a : Automaton R) (g e : TextFault) (ls : List Lexeme) → read_all a (Err g) ls ≡ Err e → g ≡ e
err_same a g e ls h = cc

end_found : {R : Type 0} {a : Automaton R} {rule : FaultRule} {At : List Sign → Sign → R → Type 1} {Left : List Sign → R → Type 0} (j : Judges a rule At Left) (x : Result R TextFault) (xs : List Sign)
    (l : Lexeme) (r : R) (e : TextFault)
    → feed_sign a l.sign l.from (lexeme finish 0 0) r ≡ x → Left xs r → Verdict rule Left r xs l.sign l.from (lexeme finish 0 0) x → is_last l.sign ≡ true → read_all a x [] ≡ Err e
    → Found rule Left xs (l ∷ []) e.kind e.at (last_of a r x [])
end_found j (Ok d) xs l r e g k v h f = absurd (last_faulty j.ends l.sign l.from (lexeme finish 0 0) r d h g)
end_found {R} {a} {rule} {At} {Left} j (Err g) xs l r e q k v h f = elim v [
  | inl x ↦ found_here rule Left xs l [] g e r (err_same a g e [] f) k x
  | inr x ↦ absurd (cc x.broken_is)
]

more_found : {R : Type 0} {a : Automaton R} {rule : FaultRule} {At : List Sign → Sign → R → Type 1} {Left : List Sign → R → Type 0} (j : Judges a rule At Left) (y : Result R TextFault)
    (xs : List Sign) (l x : Lexeme) (ls : List Lexeme) (r : R) (e : TextFault)
    → At xs l.sign r → IsNamed l.sign → a.is_read r ≡ false → feed_sign a l.sign l.from x r ≡ y → Verdict rule Left r xs l.sign l.from x y → read_all a y (x ∷ ls) ≡ Err e
    → ((d : R) → At (xs ++ l.sign ∷ []) x.sign d → read_all a (Ok d) (x ∷ ls) ≡ Err e → Found rule Left (xs ++ l.sign ∷ []) (x ∷ ls) e.kind e.at (last_of a d (Ok d) (x ∷ ls)))
    → Found rule Left xs (l ∷ x ∷ ls) e.kind e.at (last_of a r y (x ∷ ls))
more_found {R} {a} {rule} {At} {Left} j (Ok d) xs l x ls r e stands name unread g v f k =
    found_later rule Left xs l (x ∷ ls) e.kind e.at (last_of a r (Ok d) (x ∷ ls)) v (k d (j.taken xs l.sign l.from x r d stands name unread g) f)
more_found {R} {a} {rule} {At} {Left} j (Err g) xs l x ls r e stands name unread q v f k = elim v [
  | inl h ↦ found_here rule Left xs l (x ∷ ls) g e r (err_same a g e (x ∷ ls) f) (j.left xs l.sign r stands) h
  | inr h ↦ found_later rule Left xs l (x ∷ ls) e.kind e.at r h.clear (found_here rule Left (xs ++ l.sign ∷ []) x ls g e r (err_same a g e (x ∷ ls) f) h.left (h.later (sign_after (signs_of ls))))
]

last_goes : {R : Type 0} (a : Automaton R) (r : R) (l : Lexeme) (ls : List Lexeme) → a.is_read r ≡ false
    → last_of a r (feed_sign a l.sign l.from (next_lexeme_of l ls) r) ls ≡ last_of a r (Ok r) (l ∷ ls)
last_goes a r l ls e = rw e refl

finds : {R : Type 0} {a : Automaton R} {rule : FaultRule} {At : List Sign → Sign → R → Type 1} {Left : List Sign → R → Type 0} (j : Judges a rule At Left) (ls : List Lexeme) (l : Lexeme)
    (xs : List Sign) (r : R) (e : TextFault) (bytes : List ℕ) (now : ℕ)
    → Lexed bytes now (l ∷ ls) → At xs l.sign r → read_all a (Ok r) (l ∷ ls) ≡ Err e → Found rule Left xs (l ∷ ls) e.kind e.at (last_of a r (Ok r) (l ∷ ls))
finds {R} {a} {rule} {At} {Left} j [] l xs r e bytes now h stands f =
    let u = unread_if (a.is_read r) _ _ e f in
    subst (λ (z : R). Found rule Left xs (l ∷ []) e.kind e.at z) (last_goes a r l [] u.0) (elim (true_or_false (is_last l.sign)) [
      | inl last ↦ (
          let same : feed_sign a l.sign l.from (lexeme finish 0 0) r ≡ feed_sign a l.sign l.from l r = last_same j.ends l.sign l.from (lexeme finish 0 0) l r last in
          subst (λ (z : Result R TextFault). Found rule Left xs (l ∷ []) e.kind e.at (last_of a r z [])) same
          (end_found j (feed_sign a l.sign l.from (lexeme finish 0 0) r) xs l r e refl (j.left xs l.sign r stands)
          (j.verdict xs l.sign l.from (lexeme finish 0 0) r stands (named bytes now l h.0) u.0) last (ap (λ z. read_all a z []) same ∙ u.1)))
      | inr more ↦ absurd (h.2 more)
    ])
finds {R} {a} {rule} {At} {Left} j (x ∷ ls) l xs r e bytes now h stands f =
    let u = unread_if (a.is_read r) _ _ e f in
    subst (λ (z : R). Found rule Left xs (l ∷ x ∷ ls) e.kind e.at z) (last_goes a r l (x ∷ ls) u.0) (elim (true_or_false (is_last l.sign)) [
      | inl last ↦ absurd (cc (h.1 last))
      | inr more ↦ more_found j (feed_sign a l.sign l.from x r) xs l x ls r e stands (named bytes now l h.0) u.0 refl (j.verdict xs l.sign l.from x r stands (named bytes now l h.0) u.0) u.1
          (λ d k q. finds j ls x (xs ++ l.sign ∷ []) d e bytes l.until (h.2 more) k q)
    ])

-- the fault that the reading of these tokens gives is the first one
pub found : {R : Type 0} {a : Automaton R} {rule : FaultRule} {At : List Sign → Sign → R → Type 1} {Left : List Sign → R → Type 0} (j : Judges a rule At Left) (o : R) (bytes : List ℕ) (at : ℕ)
    (ls : List Lexeme) (e : TextFault)
    → ((t : Sign) → At [] t o) → Lexed bytes at ls → read_all a (Ok o) ls ≡ Err e → Found rule Left [] ls e.kind e.at (last_of a o (Ok o) ls)
found j o bytes at [] e begins h f = absurd h
found j o bytes at (l ∷ ls) e begins h f = finds j ls l [] o e bytes at h (begins l.sign) f

-- every kind has a number of at least 1
pub one_least : (k : TextKind) → 1 ≤ kind_number k
one_least (kind.Expected w) = omega arith
one_least _ = omega arith

pub least_same : (k j : TextKind) → j ≡ k → kind_number k ≤ kind_number j
least_same k j e = let n : kind_number j ≡ kind_number k = ap kind_number e in omega arith

abbrev pub first_of : {R : Type 0} (rule : FaultRule) (Left : List Sign → R → Type 0) (bytes : List ℕ) (at : ℕ) (ls : List Lexeme) (e : TextFault) (last : R) → Lexed bytes at ls
    → Found rule Left [] ls e.kind e.at last → FirstFaultBy rule bytes at e.kind e.at
first_of rule Left bytes at ls e last h x =
    record {
      before = x.xs;
      token = x.t;
      others = x.ys;
      lexed = subst
          (λ (z : List Lexeme). Lexed bytes at z) x.split h;
      stands = x.stands;
      fault = x.fault;
      clear = x.clear;
      least = λ k g. least_same e.kind k (x.only k g);
    }

-- ---- what is read has no fault

lexed_on : (bytes : List ℕ) (now : ℕ) (l x : Lexeme) (rest : List Lexeme) → Lexed bytes now (l ∷ x ∷ rest) → (is_last l.sign ≡ false) × Lexed bytes l.until (x ∷ rest)
lexed_on bytes now l x rest h = elim (true_or_false (is_last l.sign)) [
  | inl e ↦ absurd (cc (h.1 e))
  | inr e ↦ (e, h.2 e)
]

whole_of_more : (t : Sign) → is_last t ≡ false → IsWhole t
whole_of_more (broken k) h = cc
whole_of_more _ h = tt

if_false : {R : Type 0} (c : Bool) (x z : Result (Reading R) TextFault) (y : Reading R) → c ≡ false → (if c then x else z) ≡ Ok y → z ≡ Ok y
if_false true x z y e h = cc
if_false false x z y e h = h

pub nothing_read : {R : Type 0} (a : Automaton R) (z : Result R TextFault) (y : Reading R) → read_all a z [] ≡ Ok y → ⊥
nothing_read a (Ok d) y h = cc
nothing_read a (Err e) y h = cc

on_taken : {R : Type 0} {a : Automaton R} {rule : FaultRule} {At : List Sign → Sign → R → Type 1} {Left : List Sign → R → Type 0} (j : Judges a rule At Left) (z : Result R TextFault) (xs : List Sign)
    (l x : Lexeme) (rest : List Lexeme) (r : R) (y : Reading R)
    → At xs l.sign r → IsNamed l.sign → a.is_read r ≡ false → feed_sign a l.sign l.from x r ≡ z → Verdict rule Left r xs l.sign l.from x z → read_all a z (x ∷ rest) ≡ Ok y
    → ((d : R) → At (xs ++ l.sign ∷ []) x.sign d → IsClear rule xs l.sign x.sign → read_all a (Ok d) (x ∷ rest) ≡ Ok y → ⊥) → ⊥
on_taken j (Ok d) xs l x rest r y stands name unread e v f k = k d (j.taken xs l.sign l.from x r d stands name unread e) v f
on_taken j (Err g) xs l x rest r y stands name unread e v f k = cc

taken_on : {R : Type 0} {a : Automaton R} {rule : FaultRule} {At : List Sign → Sign → R → Type 1} {Left : List Sign → R → Type 0} (j : Judges a rule At Left) (xs : List Sign) (l x : Lexeme)
    (rest : List Lexeme) (r : R) (y : Reading R) (bytes : List ℕ) (now : ℕ)
    → Lexed bytes now (l ∷ x ∷ rest) → At xs l.sign r → a.is_read r ≡ false → read_all a (Ok r) (l ∷ x ∷ rest) ≡ Ok y
    → ((d : R) → At (xs ++ l.sign ∷ []) x.sign d → IsClear rule xs l.sign x.sign → read_all a (Ok d) (x ∷ rest) ≡ Ok y → ⊥) → ⊥
taken_on {R} {a} j xs l x rest r y bytes now h stands u f k =
    on_taken j (feed_sign a l.sign l.from x r) xs l x rest r y stands (named bytes now l h.0) u refl (j.verdict xs l.sign l.from x r stands (named bytes now l h.0) u)
    (if_false (a.is_read r) _ _ y u f) k

clear_of_read : {R : Type 0} {a : Automaton R} {rule : FaultRule} {At : List Sign → Sign → R → Type 1} {Left : List Sign → R → Type 0} (j : Judges a rule At Left) (before : List Lexeme)
    (token : Lexeme) (others : List Lexeme) (xs : List Sign) (r : R) (y : Reading R) (k : TextKind) (bytes : List ℕ) (now : ℕ)
    → Lexed bytes now (before ++ token ∷ others) → At xs (sign_behind (signs_of before) token.sign) r → read_all a (Ok r) (before ++ token ∷ others) ≡ Ok y
    → rule (xs ++ signs_of before) token.sign (sign_after (signs_of others)) k → ⊥
clear_of_read {R} {a} {rule} j [] token [] xs r y k bytes now h stands f g =
    let at : rule xs token.sign finish k = subst (λ (z : List Sign). rule z token.sign finish k) (append-nil xs) g in
    elim (true_or_false (a.is_read r)) [
      | inl u ↦ j.behind xs token.sign finish r k stands u at
      | inr u ↦ nothing_read a (feed_sign a token.sign token.from token r) y (if_false (a.is_read r) _ _ y u f)
    ]
clear_of_read {R} {a} {rule} j [] token (x ∷ others) xs r y k bytes now h stands f g =
    let at : rule xs token.sign x.sign k = subst (λ (z : List Sign). rule z token.sign x.sign k) (append-nil xs) g in
    elim (true_or_false (a.is_read r)) [
      | inl u ↦ j.behind xs token.sign x.sign r k stands u at
      | inr u ↦ taken_on j xs token x others r y bytes now h stands u f (λ d stands' clear f'. clear k at)
    ]
clear_of_read {R} {a} {rule} j (l ∷ []) token others xs r y k bytes now h stands f g =
    let on = lexed_on bytes now l token others h in
    elim (true_or_false (a.is_read r)) [
      | inl u ↦ j.beyond xs l.sign [] token.sign (sign_after (signs_of others)) r k stands u (whole_of_more l.sign on.0) g
      | inr u ↦ taken_on j xs l token others r y bytes now h stands u f (λ d stands' clear f'. clear_of_read j [] token others (xs ++ l.sign ∷ []) d y k bytes l.until on.1 stands' f'
          (subst (λ (z : List Sign). rule z token.sign (sign_after (signs_of others)) k) (sym (append-nil (xs ++ l.sign ∷ []))) g))
    ]
clear_of_read {R} {a} {rule} j (l ∷ m ∷ before) token others xs r y k bytes now h stands f g =
    let on = lexed_on bytes now l m (before ++ token ∷ others) h in
    elim (true_or_false (a.is_read r)) [
      | inl u ↦ j.beyond xs l.sign (m.sign ∷ signs_of before) token.sign (sign_after (signs_of others)) r k stands u (whole_of_more l.sign on.0) g
      | inr u ↦ taken_on j xs l m (before ++ token ∷ others) r y bytes now h stands u f
          (λ d stands' clear f'. clear_of_read j (m ∷ before) token others (xs ++ l.sign ∷ []) d y k bytes l.until on.1 stands' f'
          (subst (λ (z : List Sign). rule z token.sign (sign_after (signs_of others)) k) (sym (append_assoc xs (l.sign ∷ []) (m.sign ∷ signs_of before))) g))
    ]

pub no_fault : {R : Type 0} {a : Automaton R} {rule : FaultRule} {At : List Sign → Sign → R → Type 1} {Left : List Sign → R → Type 0} (j : Judges a rule At Left) (o : R) (bytes : List ℕ) (at : ℕ)
    (y : Reading R) (k : TextKind) (offset : ℕ) (f : FirstFaultBy rule bytes at k offset)
    → ((t : Sign) → At [] t o) → read_all a (Ok o) (f.before ++ f.token ∷ f.others) ≡ Ok y → ⊥
no_fault j o bytes at y k offset f begins e = clear_of_read j f.before f.token f.others [] o y k bytes at f.lexed (begins (sign_behind (signs_of f.before) f.token.sign)) e f.fault

-- ---- one fault at most

pub same_place : (rule : FaultRule) (b c : List Lexeme) (t s : Lexeme) (os ps : List Lexeme) (xs : List Sign) (j k : TextKind) → b ++ t ∷ os ≡ c ++ s ∷ ps
    → rule (xs ++ signs_of b) t.sign (sign_after (signs_of os)) j → AllClear rule xs (signs_of b) (signs_of (t ∷ os))
    → rule (xs ++ signs_of c) s.sign (sign_after (signs_of ps)) k → AllClear rule xs (signs_of c) (signs_of (s ∷ ps)) → (b ≡ c) × ((t ≡ s) × (os ≡ ps))
same_place rule [] [] t s os ps xs j k h f cf g cg = (refl, (cc, cc))
same_place rule [] (x ∷ c) t s os ps xs j k h f cf g cg =
    let one : t ≡ x = cc in
    let more : os ≡ c ++ s ∷ ps = cc in
    let signs : signs_of os ≡ signs_of c ++ signs_of (s ∷ ps) = ap signs_of more ∙ signs_append c (s ∷ ps) in
    absurd (cg.0 j (subst (λ (z : List Sign). rule xs x.sign (sign_after z) j) signs
    (subst (λ (z : Lexeme). rule xs z.sign (sign_after (signs_of os)) j) one (subst (λ (z : List Sign). rule z t.sign (sign_after (signs_of os)) j) (append-nil xs) f))))
same_place rule (x ∷ b) [] t s os ps xs j k h f cf g cg =
    let one : s ≡ x = cc in
    let more : ps ≡ b ++ t ∷ os = cc in
    let signs : signs_of ps ≡ signs_of b ++ signs_of (t ∷ os) = ap signs_of more ∙ signs_append b (t ∷ os) in
    absurd (cf.0 k (subst (λ (z : List Sign). rule xs x.sign (sign_after z) k) signs
    (subst (λ (z : Lexeme). rule xs z.sign (sign_after (signs_of ps)) k) one (subst (λ (z : List Sign). rule z s.sign (sign_after (signs_of ps)) k) (append-nil xs) g))))
same_place rule (x ∷ b) (y ∷ c) t s os ps xs j k h f cf g cg =
    let one : y ≡ x = cc in
    let more : b ++ t ∷ os ≡ c ++ s ∷ ps = cc in
    let shape : (zs : List Lexeme) → xs ++ (x.sign ∷ signs_of zs) ≡ (xs ++ x.sign ∷ []) ++ signs_of zs = λ zs. sym (append_assoc xs (x.sign ∷ []) (signs_of zs)) in
    let g' : rule (xs ++ (x.sign ∷ signs_of c)) s.sign (sign_after (signs_of ps)) k = subst (λ (z : Lexeme). rule (xs ++ (z.sign ∷ signs_of c)) s.sign (sign_after (signs_of ps)) k) one g in
    let z = same_place rule b c t s os ps (xs ++ x.sign ∷ []) j k more (subst (λ (z : List Sign). rule z t.sign (sign_after (signs_of os)) j) (shape b) f) cf.1
    (subst (λ (z : List Sign). rule z s.sign (sign_after (signs_of ps)) k) (shape c) g') (subst (λ (z : Lexeme). AllClear rule (xs ++ z.sign ∷ []) (signs_of c) (signs_of (s ∷ ps))) one cg.1) in
    (ap (λ o. x ∷ o) z.0 ∙ ap (λ o. o ∷ c) (sym one), z.1)

-- a first fault is the one that is found
found_is : {R : Type 0} (rule : FaultRule) (Left : List Sign → R → Type 0) (bytes : List ℕ) (at : ℕ) (k : TextKind) (offset : ℕ) (e : TextFault) (ls : List Lexeme) (last : R)
    (f : FirstFaultBy rule bytes at k offset) → Lexed bytes at ls → Found rule Left [] ls e.kind e.at last → (k ≡ e.kind) × (offset ≡ e.at)
found_is rule Left bytes at k offset e ls last f h x =
    let same = same_place rule f.before x.xs f.token x.t f.others x.ys [] k e.kind (one_list bytes (f.before ++ f.token ∷ f.others) ls at f.lexed h ∙ x.split) f.fault f.clear x.fault x.clear in
    let a : rule (signs_of x.xs) f.token.sign (sign_after (signs_of f.others)) k = subst (λ (z : List Lexeme). rule (signs_of z) f.token.sign (sign_after (signs_of f.others)) k) same.0 f.fault in
    let b : rule (signs_of x.xs) x.t.sign (sign_after (signs_of f.others)) k = subst (λ (z : Lexeme). rule (signs_of x.xs) z.sign (sign_after (signs_of f.others)) k) same.1.0 a in
    let c : rule (signs_of x.xs) x.t.sign (sign_after (signs_of x.ys)) k = subst (λ (z : List Lexeme). rule (signs_of x.xs) x.t.sign (sign_after (signs_of z)) k) same.1.1 b in
    (x.only k c, sym f.stands ∙ ap (λ z. z.from) same.1.0 ∙ x.stands)

told_by : {R : Type 0} {a : Automaton R} {rule : FaultRule} {At : List Sign → Sign → R → Type 1} {Left : List Sign → R → Type 0} (j : Judges a rule At Left) (o : R) (z : Result (Reading R) TextFault)
    (bytes : List ℕ) (at : ℕ) (k : TextKind) (offset : ℕ) (f : FirstFaultBy rule bytes at k offset)
    → ((t : Sign) → At [] t o) → read_all a (Ok o) (f.before ++ f.token ∷ f.others) ≡ z → z ≡ Err (record { kind = k; at = offset })
told_by j o (Ok y) bytes at k offset f begins e = absurd (no_fault j o bytes at y k offset f begins e)
told_by {R} {a} {rule} {At} {Left} j o (Err g) bytes at k offset f begins e =
    let ls : List Lexeme = f.before ++ f.token ∷ f.others in
    let same = found_is rule Left bytes at k offset g ls (last_of a o (Ok o) ls) f f.lexed (found j o bytes at ls g begins f.lexed e) in
    ap (λ i. Err (record { kind = i; at = g.at })) (sym same.0) ∙ ap (λ i. Err (record { kind = k; at = i })) (sym same.1)

-- the first fault of a text is told
pub tells : {R : Type 0} {a : Automaton R} {rule : FaultRule} {At : List Sign → Sign → R → Type 1} {Left : List Sign → R → Type 0} (j : Judges a rule At Left) (o : R) (bytes : List ℕ) (at : ℕ)
    (k : TextKind) (offset : ℕ) → ((t : Sign) → At [] t o) → FirstFaultBy rule bytes at k offset
    → (ls : List Lexeme) → Lexed bytes at ls → read_all a (Ok o) ls ≡ Err (record { kind = k; at = offset })
tells {R} {a} j o bytes at k offset begins f ls h =
    ap (λ z. read_all a (Ok o) z) (one_list bytes ls (f.before ++ f.token ∷ f.others) at h f.lexed) ∙ told_by j o (read_all a (Ok o) (f.before ++ f.token ∷ f.others)) bytes at k offset f begins refl

told_same : {R : Type 0} (g e : TextFault) (x : Result (Reading R) TextFault) → x ≡ Err g → x ≡ Err e → g ≡ e
told_same g e x h k = cc

-- a text has one first fault at most
pub one_fault : {R : Type 0} {a : Automaton R} {rule : FaultRule} {At : List Sign → Sign → R → Type 1} {Left : List Sign → R → Type 0} (j : Judges a rule At Left) (o : R) (bytes : List ℕ) (at : ℕ)
    (i k : TextKind) (n m : ℕ) → ((t : Sign) → At [] t o) → FirstFaultBy rule bytes at i n → FirstFaultBy rule bytes at k m → (i ≡ k) × (n ≡ m)
one_fault {R} {a} j o bytes at i k n m begins f g =
    let ls : List Lexeme = f.before ++ f.token ∷ f.others in
    let e : record { kind = i; at = n } ≡ record { kind = k; at = m }
    = told_same (record { kind = i; at = n }) (record { kind = k; at = m }) (read_all a (Ok o) ls) (tells j o bytes at i n begins f ls f.lexed) (tells j o bytes at k m begins g ls f.lexed) in
    (ap (λ (z : TextFault). z.kind) e, ap (λ (z : TextFault). z.at) e)

-- ---- where the reading stops

pub record Halt {R : Type 0} (a : Automaton R) (At : List Sign → Sign → R → Type 1) (before : List Sign) (ls : List Lexeme) (x : Reading R) : Type 1 where
  pub xs : List Lexeme
  pub l : Lexeme
  pub others : List Lexeme
  pub split : ls ≡ xs ++ l ∷ others
  pub stands : At (before ++ signs_of xs) l.sign x.reader
  pub read : a.is_read x.reader ≡ true
  pub until : x.until ≡ l.from

halt_later : {R : Type 0} (a : Automaton R) (At : List Sign → Sign → R → Type 1) (before : List Sign) (l : Lexeme) (ls : List Lexeme) (x : Reading R) → Halt a At (before ++ l.sign ∷ []) ls x
    → Halt a At before (l ∷ ls) x
halt_later a At before l ls x s = record {
  xs = l ∷ s.xs;
  l = s.l;
  others = s.others;
  split = ap (λ z. l ∷ z) s.split;
  stands = subst (λ (z : List Sign). At z s.l.sign x.reader) (append_assoc before (l.sign ∷ []) (signs_of s.xs)) s.stands;
  read = s.read;
  until = s.until;
}

ok_is : {R : Type 0} (x y : Reading R) (z : Result (Reading R) TextFault) → z ≡ Ok x → z ≡ Ok y → x ≡ y
ok_is x y z h k = cc

halt_here : {R : Type 0} (a : Automaton R) (At : List Sign → Sign → R → Type 1) (before : List Sign) (l : Lexeme) (ls : List Lexeme) (r : R) (x : Reading R) → record { reader = r; until = l.from } ≡ x
    → At before l.sign r → a.is_read r ≡ true → Halt a At before (l ∷ ls) x
halt_here {R} a At before l ls r x same stands h =
    subst (λ (z : Reading R). Halt a At before (l ∷ ls) z) same (record {
      xs = [];
      l = l;
      others = ls;
      split = refl;
      stands = subst (λ (z : List Sign). At z l.sign r) (sym (append-nil before)) stands;
      read = h;
      until = refl;
    })

on_read : {R : Type 0} (a : Automaton R) (y : Result R TextFault) (ls : List Lexeme) (x : Reading R) → read_all a y ls ≡ Ok x → (d : R) × (y ≡ Ok d) × (read_all a (Ok d) ls ≡ Ok x)
on_read a (Ok d) ls x h = (d, refl, h)
on_read a (Err e) ls x h = absurd (cc h)

read_first : {R : Type 0} (a : Automaton R) (l : Lexeme) (ls : List Lexeme) (r : R) (c : Bool) → a.is_read r ≡ c
    → read_all a (Ok r) (l ∷ ls) ≡ (if c then Ok (record { reader = r; until = l.from }) else read_all a (feed_sign a l.sign l.from (next_lexeme_of l ls) r) ls)
read_first a l ls r c e = ap (λ z. if z then Ok (record { reader = r; until = l.from }) else read_all a (feed_sign a l.sign l.from (next_lexeme_of l ls) r) ls) e

halts : {R : Type 0} {a : Automaton R} {rule : FaultRule} {At : List Sign → Sign → R → Type 1} {Left : List Sign → R → Type 0} (j : Judges a rule At Left) (ls : List Lexeme) (l : Lexeme)
    (before : List Sign) (r : R) (x : Reading R) (bytes : List ℕ) (now : ℕ)
    → Lexed bytes now (l ∷ ls) → At before l.sign r → read_all a (Ok r) (l ∷ ls) ≡ Ok x → Halt a At before (l ∷ ls) x
halts {R} {a} {rule} {At} j [] l before r x bytes now h stands f = elim (true_or_false (a.is_read r)) [
  | inl e ↦ halt_here a At before l [] r x (ok_is (record { reader = r; until = l.from }) x (read_all a (Ok r) (l ∷ [])) (read_first a l [] r true e) f) stands e
  | inr e ↦ absurd (nothing_read a (feed_sign a l.sign l.from l r) x (sym (read_first a l [] r false e) ∙ f))
]
halts {R} {a} {rule} {At} j (y ∷ ls) l before r x bytes now h stands f = elim (true_or_false (a.is_read r)) [
  | inl e ↦ halt_here a At before l (y ∷ ls) r x (ok_is (record { reader = r; until = l.from }) x (read_all a (Ok r) (l ∷ y ∷ ls)) (read_first a l (y ∷ ls) r true e) f) stands e
  | inr e ↦ elim (true_or_false (is_last l.sign)) [
    | inl last ↦ absurd (cc (h.1 last))
    | inr goes ↦ (
        let g = on_read a (feed_sign a l.sign l.from y r) (y ∷ ls) x (sym (read_first a l (y ∷ ls) r false e) ∙ f) in
        halt_later a At before l (y ∷ ls) x (halts j ls y (before ++ l.sign ∷ []) g.0 x bytes l.until (h.2 goes) (j.taken before l.sign l.from y r g.0 stands (named bytes now l h.0) e g.1) g.2))
  ]
]

-- where the reading of the tokens of a text stops
pub halt : {R : Type 0} {a : Automaton R} {rule : FaultRule} {At : List Sign → Sign → R → Type 1} {Left : List Sign → R → Type 0} (j : Judges a rule At Left) (o : R) (bytes : List ℕ) (at : ℕ)
    (ls : List Lexeme) (x : Reading R) → ((t : Sign) → At [] t o) → Lexed bytes at ls → read_all a (Ok o) ls ≡ Ok x → Halt a At [] ls x
halt j o bytes at [] x begins lexed h = absurd lexed
halt j o bytes at (l ∷ ls) x begins lexed h = halts j ls l [] o x bytes at lexed (begins l.sign) h

-- ---- a text that is spelt is read

next_sign : (x : Lexeme) (xs : List Lexeme) (l : Lexeme) (others : List Lexeme) → (next_lexeme_of x (xs ++ l ∷ others)).sign ≡ sign_behind (signs_of xs) l.sign
next_sign x [] l others = refl
next_sign x (y ∷ xs) l others = refl

exact_first : {R : Type 0} (a : Automaton R) (t u : Sign) (at : ℕ) (n : Lexeme) (ts : List Sign) (r : R) (N : Type 0) (Q : R → Type 0) → n.sign ≡ sign_behind ts u → Exact a (t ∷ ts) u N Q r
    → Tells (feed_sign a t at n r) N (λ d. Exact a ts u N Q d)
exact_first a t u at n ts r N Q e h = subst (λ (z : Sign). Tells (feed_sign a t at (lexeme z n.from n.until) r) N (λ d. Exact a ts u N Q d)) (sym e) (h at n.from n.until)

-- the tokens are read as far as l, and lead to such a reader
abbrev pub Runs : {R : Type 0} → Automaton R → Result R TextFault → List Lexeme → Lexeme → (R → Type 0) → Type 0
Runs {R} a x ls l Q = (d : R) × (Q d × (read_all a x ls ≡ Ok (record { reader = d; until = l.from })))

on_fed : {R : Type 0} (a : Automaton R) (x : Result R TextFault) (ls : List Lexeme) (l : Lexeme) (N : Type 0) (P Q : R → Type 0) → (N → ⊥) → Tells x N P → ((d : R) → P d → Runs a (Ok d) ls l Q)
    → Runs a x ls l Q
on_fed a (Ok d) ls l N P Q never h k = k d h
on_fed a (Err e) ls l N P Q never h k = absurd (never h)

-- `over` says that a reader that has read all takes no token
pub runs : {R : Type 0} (a : Automaton R) (over : (t : Sign) (at : ℕ) (n : Lexeme) (r : R) (N : Type 0) (Q : R → Type 0) → a.is_read r ≡ true → Tells (feed_sign a t at n r) N Q → N) (xs : List Lexeme)
    (l : Lexeme) (others : List Lexeme) (r : R) (N : Type 0) (Q : R → Type 0)
    → (N → ⊥) → ((d : R) → Q d → a.is_read d ≡ true) → Exact a (signs_of xs) l.sign N Q r → Runs a (Ok r) (xs ++ l ∷ others) l Q
runs a over [] l others r N Q never q h =
    (r, (h, ap (λ z. if z then Ok (record { reader = r; until = l.from }) else read_all a (feed_sign a l.sign l.from (next_lexeme_of l others) r) others) (q r h)))
runs a over (x ∷ xs) l others r N Q never q h =
    let n : Lexeme = next_lexeme_of x (xs ++ l ∷ others) in
    let told : Tells (feed_sign a x.sign x.from n r) N (λ d. Exact a (signs_of xs) l.sign N Q d) = exact_first a x.sign l.sign x.from n (signs_of xs) r N Q (next_sign x xs l others) h in
    elim (true_or_false (a.is_read r)) [
      | inl e ↦ absurd (never (over x.sign x.from n r N (λ d. Exact a (signs_of xs) l.sign N Q d) e told))
      | inr e ↦ (let g = on_fed a (feed_sign a x.sign x.from n r) (xs ++ l ∷ others) l N (λ d. Exact a (signs_of xs) l.sign N Q d) Q never told (λ d k. runs a over xs l others d N Q never q k) in
          (g.0, (g.1.0, ap (λ z. if z then Ok (record { reader = r; until = x.from }) else read_all a (feed_sign a x.sign x.from n r) (xs ++ l ∷ others)) e ∙ g.1.1)))
    ]
