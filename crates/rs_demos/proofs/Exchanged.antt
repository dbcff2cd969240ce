-- What the members of a butterfly hold, round by round.
use Rattle.std.proofs.Common.{◌≡◌, ◌≢◌, inl, inr, ℕ, ◌+◌, ◌/◌, ◌%◌, ◌<◌, Bool, true, false, not, ◌&&◌, ◌==◌, nat_lt, if◌then◌else◌, ℤ, ◌+ℤ◌, ◌-ℤ◌, neg_ℤ, List, [], ◌∷◌, ◌++◌, map, refl, sym, ap, ap₂}
use Rattle.std.proofs.Common.{◌∙◌, subst, arith, append_assoc}
use Rattle.std.specs.List.{list_all, range_with_len}
use Rattle.std.proofs.lemmas.Bool.{and_parts, false≢true, ltb-true}
use Rattle.std.proofs.lemmas.Bool.Decides.{eqb_tells}
use Rattle.std.specs.Int.{w64}
use Rattle.std.proofs.lemmas.Int.{int_wrap-add_left, int_wrap-add_right, int_wrap-sub_right}
use Rattle.rs_model.specs.declared.values.Value.{Value}
use Rattle.rs_model.specs.declared.values.Value.TheVariants as value
use Rattle.rs_core.specs.declared.messages.Message.{Message}
use Rattle.rs_core.specs.Histories.{Sent, Got, History}
use Rattle.rs_core.proofs.Fifo.{sents, gots, sents_append, gots_append}
use Rattle.rs_demos.specs.Acting.{talker_behind_value}
use Rattle.rs_demos.specs.Results.{in_64_bits}
use Rattle.rs_demos.specs.Sessions.{Exchange, role, partner}
use Rattle.rs_demos.specs.declared.actors.DemoTalker.{DemoTalker}
use Rattle.rs_demos.specs.declared.actors.DemoTalker.TheVariants as actor
use Rattle.rs_demos.proofs.Ranges.{in_range}
use Rattle.rs_demos.proofs.Playing.{sents_cons, sents_skip, gots_cons, gots_skip}
use Rattle.rs_demos.proofs.Trading.{Trades, script_got}

abbrev pub member : ℕ → ℤ → DemoTalker
member b a = actor.ButterflyMember (record { bits = b; held = a })

abbrev pub pair_at : ℕ → ℕ → Exchange
pair_at i s = (partner s i, partner s i)

-- the pairs of acts of role i in these rounds
abbrev pub pairs_of : List ℕ → ℕ → List Exchange
pairs_of ss i = map (pair_at i) ss

-- tests of partners

abbrev are_apart : ℕ → ℕ → List ℕ → Bool
are_apart s i later = list_all (λ (s' : ℕ). not (partner s i == partner s' i)) later

abbrev good_at : ℕ → ℕ → List ℕ → ℕ → Bool
good_at n s later i = (nat_lt (partner s i) n && (partner s (partner s i) == i)) && (not (partner s i == i) && are_apart s i later)

abbrev pub are_good : ℕ → List ℕ → Bool
are_good n [] = true
are_good n (s ∷ later) = list_all (good_at n s later) (range_with_len 0 n) && are_good n later

record Good (n s : ℕ) (later : List ℕ) (i : ℕ) : Type 0 where
  within : partner s i < n
  back : partner s (partner s i) ≡ i
  other : partner s i ≢ i
  apart : are_apart s i later ≡ true

eq_by : (x y : ℕ) → (x == y) ≡ true → x ≡ y
eq_by x y h = elim (eqb_tells x y) [ inl t ↦ t.1 | inr t ↦ absurd (false≢true (sym t.0 ∙ h)) ]

ne_by : (x y : ℕ) → not (x == y) ≡ true → x ≢ y
ne_by x y h e = elim (eqb_tells x y) [ inl t ↦ false≢true (ap not (sym t.0) ∙ h) | inr t ↦ t.1 e ]

good : (n s : ℕ) (later : List ℕ) (i : ℕ) → list_all (good_at n s later) (range_with_len 0 n) ≡ true → i < n → Good n s later i
good n s later i h lt =
    let e : 0 + i ≡ i = omega arith in
    let P : ℕ → Type 0 = λ z. good_at n s later z ≡ true in
    let g = subst P e (in_range (good_at n s later) n 0 i h lt) in
    let a = and_parts (nat_lt (partner s i) n && (partner s (partner s i) == i)) (not (partner s i == i) && are_apart s i later) g in
    let b = and_parts (nat_lt (partner s i) n) (partner s (partner s i) == i) a.0 in
    let c = and_parts (not (partner s i == i)) (are_apart s i later) a.1 in
    record {
      within = ltb-true (partner s i) n b.0;
      back = eq_by (partner s (partner s i)) i b.1;
      other = ne_by (partner s i) i c.0;
      apart = c.1;
    }

-- a role before these rounds

-- so far role i has exchanged nothing with its partners of these rounds
abbrev pub Silent : List ℕ → ℕ → History → Type 0
Silent [] i before = Unit {0}
Silent (s ∷ ss) i before = (sents (partner s i) before ≡ []) × (gots (partner s i) before ≡ []) × Silent ss i before

pub record AtRole (ss : List ℕ) (b : ℕ) (a : ℤ) (i : ℕ) (h : History) (y : DemoTalker) : Type 0 where
  pub before : History
  pub later : History
  pub split : h ≡ before ++ later
  pub trades : Trades (pairs_of ss i) y (member b a) later
  pub silent : Silent ss i before

acts_with : ℕ → ℤ → Value → History
acts_with p a c = Sent (role p) (record { 0 = 0 }) (value.Whole a) ∷ Got (role p) (record { 0 = 0 }) c ∷ []

sents_none : (q p : ℕ) (a : ℤ) (c : Value) → p ≢ q → sents q (acts_with p a c) ≡ []
unfolding acts_with
sents_none q p a c ne = sents_skip q (role p) (record { 0 = 0 }) (value.Whole a) (Got (role p) (record { 0 = 0 }) c ∷ []) ne

gots_none : (q p : ℕ) (a : ℤ) (c : Value) → p ≢ q → gots q (acts_with p a c) ≡ []
unfolding acts_with
gots_none q p a c ne = gots_skip q (role p) (record { 0 = 0 }) c [] ne

still_silent : (ss : List ℕ) (s i : ℕ) (a : ℤ) (c : Value) (before : History) → are_apart s i ss ≡ true → Silent ss i before
    → Silent ss i (before ++ acts_with (partner s i) a c)
still_silent [] s i a c before h q = tt
still_silent (s' ∷ ss) s i a c before h q =
    let p = and_parts (not (partner s i == partner s' i)) (are_apart s i ss) h in
    let ne = ne_by (partner s i) (partner s' i) p.0 in (
      sents_append (partner s' i) before (acts_with (partner s i) a c) ∙ ap₂ (λ (x y : List Message). x ++ y) q.0 (sents_none (partner s' i) (partner s i) a c ne),
      gots_append (partner s' i) before (acts_with (partner s i) a c) ∙ ap₂ (λ (x y : List Message). x ++ y) q.1 (gots_none (partner s' i) (partner s i) a c ne),
      still_silent ss s i a c before p.1 q.2,
    )

-- the first message of a round

head_sent : (q i : ℕ) (h before later rest : History) (a : ℤ) → h ≡ before ++ later → sents q before ≡ [] → later ≡ Sent (role q) (record { 0 = 0 }) (value.Whole a) ∷ rest
    → sents q h ≡ record { label = record { 0 = 0 }; value = value.Whole a } ∷ sents q rest
head_sent q i h before later rest a e s l =
    ap (λ (z : History). sents q z) e ∙ sents_append q before later ∙ ap (λ (z : List Message). z ++ sents q later) s
    ∙ ap (λ (z : History). sents q z) l ∙ sents_cons q (role q) (record { 0 = 0 }) (value.Whole a) rest refl

head_got : (q i : ℕ) (h before later rest : History) (a : ℤ) (c : Value) → h ≡ before ++ later → gots q before ≡ []
    → later ≡ Sent (role q) (record { 0 = 0 }) (value.Whole a) ∷ Got (role q) (record { 0 = 0 }) c ∷ rest
    → gots q h ≡ record { label = record { 0 = 0 }; value = c } ∷ gots q rest
head_got q i h before later rest a c e s l =
    ap (λ (z : History). gots q z) e ∙ gots_append q before later ∙ ap (λ (z : List Message). z ++ gots q later) s
    ∙ ap (λ (z : History). gots q z) l ∙ gots_cons q (role q) (record { 0 = 0 }) c rest refl

first_same : (c d : Value) (xs ys q : List Message) → (record { label = record { 0 = 0 }; value = c } ∷ xs) ++ q ≡ record { label = record { 0 = 0 }; value = d } ∷ ys → c ≡ d
first_same c d xs ys q e =
    let hd : record { label = record { 0 = 0 }; value = c } ≡ record { label = record { 0 = 0 }; value = d } = cc (e) in
    ap (λ (m : Message). m.value) hd

-- what was taken is the first part of what was sent
abbrev pub Queues : ℕ → (ℕ → History) → Type 0
Queues n h = (a b : ℕ) → a < n → b < n → a ≢ b → (q : List Message) × (gots a (h b) ++ q ≡ sents b (h a))

abbrev pub Stage : ℕ → List ℕ → (ℕ → ℕ) → (ℕ → ℤ) → (ℕ → History) → (ℕ → DemoTalker) → Type 0
Stage n ss b a h y = (i : ℕ) → i < n → AtRole ss (b i) (a i) i (h i) (y i)

-- the bits and the numbers after a round

abbrev pub bits_behind : (ℕ → ℕ) → ℕ → ℕ
bits_behind b i = b i / 2

abbrev pub held_behind : ℕ → (ℕ → ℕ) → (ℕ → ℤ) → ℕ → ℤ
held_behind s b a i = if b i % 2 == 0 then in_64_bits (a i +ℤ a (partner s i)) else in_64_bits (a (partner s i) -ℤ a i)

-- role i gets the number of its partner
came : (n s : ℕ) (ss : List ℕ) (b : ℕ → ℕ) (a : ℕ → ℤ) (h : ℕ → History) (y : ℕ → DemoTalker) (i : ℕ) → Queues n h → (lt : i < n)
    → (g : Good n s ss i) → (st : Stage n (s ∷ ss) b a h y) → (st i lt).trades.came ≡ value.Whole (a (partner s i))
came n s ss b a h y i q lt g st =
    let got = head_got (partner s i) i (h i) (st i lt).before (st i lt).later (st i lt).trades.later (a i) (st i lt).trades.came (st i lt).split (st i lt).silent.1 (st i lt).trades.history_is in
    let b' : partner s (partner s i) ≡ i = g.back in
    let is : (st (partner s i) g.within).later ≡ Sent (role i) (record { 0 = 0 }) (value.Whole (a (partner s i))) ∷
    (script_got (pair_at (partner s i) s) (st (partner s i) g.within).trades.came ∷ (st (partner s i) g.within).trades.later) =
    (st (partner s i) g.within).trades.history_is ∙ ap (λ (z : ℕ). Sent (role z) (record { 0 = 0 }) (value.Whole (a (partner s i))) ∷
    (script_got (pair_at (partner s i) s) (st (partner s i) g.within).trades.came ∷ (st (partner s i) g.within).trades.later)) b' in
    let quiet : sents i (st (partner s i) g.within).before ≡ [] = ap (λ (z : ℕ). sents z (st (partner s i) g.within).before) (sym b') ∙ (st (partner s i) g.within).silent.0 in
    let sent = head_sent i (partner s i) (h (partner s i)) (st (partner s i) g.within).before (st (partner s i) g.within).later
    (script_got (pair_at (partner s i) s) (st (partner s i) g.within).trades.came ∷ (st (partner s i) g.within).trades.later) (a (partner s i)) (st (partner s i) g.within).split quiet is in
    let f = q (partner s i) i g.within lt g.other in
    first_same (st i lt).trades.came (value.Whole (a (partner s i))) (gots (partner s i) (st i lt).trades.later)
    (sents i (script_got (pair_at (partner s i) s) (st (partner s i) g.within).trades.came ∷ (st (partner s i) g.within).trades.later)) f.0
    (ap (λ (z : List Message). z ++ f.0) (sym got) ∙ f.1 ∙ sent)

round : (n s : ℕ) (ss : List ℕ) (b : ℕ → ℕ) (a : ℕ → ℤ) (h : ℕ → History) (y : ℕ → DemoTalker) → Queues n h
    → ((i : ℕ) → i < n → Good n s ss i) → Stage n (s ∷ ss) b a h y → Stage n ss (bits_behind b) (held_behind s b a) h y
unfolding acts_with
round n s ss b a h y q g st i lt =
    let c = came n s ss b a h y i q lt (g i lt) st in
    let told : talker_behind_value (member (b i) (a i)) (st i lt).trades.came ≡ member (bits_behind b i) (held_behind s b a i) =
    ap (λ (z : Value). talker_behind_value (member (b i) (a i)) z) c in
    let P : DemoTalker → Type 0 = λ z. Trades (pairs_of ss i) (y i) z (st i lt).trades.later in
    record {
      before = (st i lt).before ++ acts_with (partner s i) (a i) (st i lt).trades.came;
      later = (st i lt).trades.later;
      split = (st i lt).split ∙ ap (λ (z : History). (st i lt).before ++ z) (st i lt).trades.history_is
          ∙ sym (append_assoc (st i lt).before (acts_with (partner s i) (a i) (st i lt).trades.came) (st i lt).trades.later);
      trades = subst P told (st i lt).trades.rest;
      silent = still_silent ss s i (a i) (st i lt).trades.came (st i lt).before (g i lt).apart (st i lt).silent.2;
    }

-- the number after these rounds
abbrev pub held_at_end : List ℕ → (ℕ → ℕ) → (ℕ → ℤ) → ℕ → ℤ
held_at_end [] b a i = a i
held_at_end (s ∷ ss) b a i = held_at_end ss (bits_behind b) (held_behind s b a) i

pub at_the_end : (n : ℕ) (ss : List ℕ) (b : ℕ → ℕ) (a : ℕ → ℤ) (h : ℕ → History) (y : ℕ → DemoTalker) → are_good n ss ≡ true → Queues n h → Stage n ss b a h y
    → (i : ℕ) → i < n → (bits : ℕ) × (member bits (held_at_end ss b a i) ≡ y i)
at_the_end n [] b a h y g q st i lt = (b i, (st i lt).trades.1)
at_the_end n (s ∷ ss) b a h y g q st i lt =
    let p = and_parts (list_all (good_at n s ss) (range_with_len 0 n)) (are_good n ss) g in
    at_the_end n ss (bits_behind b) (held_behind s b a) h y p.1 q (round n s ss b a h y q (λ j l. good n s ss j p.0 l) st) i lt

-- the same without wrapping on the way

abbrev pub sum_behind : ℕ → (ℕ → ℕ) → (ℕ → ℤ) → ℕ → ℤ
sum_behind s b a i = if b i % 2 == 0 then a i +ℤ a (partner s i) else a (partner s i) -ℤ a i

abbrev pub sum_at_end : List ℕ → (ℕ → ℕ) → (ℕ → ℤ) → ℕ → ℤ
sum_at_end [] b a i = a i
sum_at_end (s ∷ ss) b a i = sum_at_end ss (bits_behind b) (sum_behind s b a) i

wrap_add : (x y : ℤ) → in_64_bits (in_64_bits x +ℤ in_64_bits y) ≡ in_64_bits (x +ℤ y)
wrap_add x y = int_wrap-add_left w64 x (in_64_bits y) ∙ int_wrap-add_right w64 x y

wrap_sub : (x y : ℤ) → in_64_bits (in_64_bits x -ℤ in_64_bits y) ≡ in_64_bits (x -ℤ y)
wrap_sub x y = int_wrap-sub_right w64 (in_64_bits x) y ∙ int_wrap-add_left w64 x (neg_ℤ y)

wrap_choice : (t : Bool) (x y : ℤ) → (if t then in_64_bits (in_64_bits x +ℤ in_64_bits y) else in_64_bits (in_64_bits y -ℤ in_64_bits x)) ≡ in_64_bits (if t then x +ℤ y else y -ℤ x)
wrap_choice true x y = wrap_add x y
wrap_choice false x y = wrap_sub y x

wrapped_behind : (s : ℕ) (b : ℕ → ℕ) (a a' : ℕ → ℤ) → ((i : ℕ) → a i ≡ in_64_bits (a' i)) → (i : ℕ) → held_behind s b a i ≡ in_64_bits (sum_behind s b a' i)
wrapped_behind s b a a' e i =
    ap₂ (λ (x y : ℤ). if b i % 2 == 0 then in_64_bits (x +ℤ y) else in_64_bits (y -ℤ x)) (e i) (e (partner s i)) ∙ wrap_choice (b i % 2 == 0) (a' i) (a' (partner s i))

pub wrapped_at_end : (ss : List ℕ) (b : ℕ → ℕ) (a a' : ℕ → ℤ) → ((i : ℕ) → a i ≡ in_64_bits (a' i)) → (i : ℕ) → held_at_end ss b a i ≡ in_64_bits (sum_at_end ss b a' i)
wrapped_at_end [] b a a' e i = e i
wrapped_at_end (s ∷ ss) b a a' e i = wrapped_at_end ss (bits_behind b) (held_behind s b a) (sum_behind s b a') (wrapped_behind s b a a' e) i
