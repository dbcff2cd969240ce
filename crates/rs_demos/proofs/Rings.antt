-- Ended runs of the ring leave the sum of all numbers at each role.
use Rattle.std.proofs.Common.{◌≡◌, ◌≢◌, inl, inr, ℕ, zero, suc, ◌+◌, ◌-◌, ◌<◌, ◌≤◌, Bool, true, not, ◌&&◌, ◌==◌, nat_lt, nat_le, if◌then◌else◌, ℤ, pos, ◌+ℤ◌, List, [], ◌∷◌, ◌++◌, map, length, get_or}
use Rattle.std.proofs.Common.{Option, Some, slice_get, refl, sym, ap, ap₂, ◌∙◌, subst, arith, append-nil, length-append}
use Rattle.std.specs.Int.{w64}
use Rattle.std.specs.List.{list_all, range_with_len}
use Rattle.std.proofs.lemmas.Bool.{and_parts, false≢true, leb-true, ltb-true}
use Rattle.std.proofs.lemmas.Bool.Decides.{eqb_tells}
use Rattle.std.proofs.lemmas.Int.{ints, int_wrap-add_left}
use Rattle.rs_model.specs.declared.values.Value.{Value}
use Rattle.rs_model.specs.declared.values.Value.TheVariants as value
use Rattle.rs_model.specs.declared.demos.Demo.TheVariants as demo
use Rattle.rs_core.specs.declared.messages.Message.{Message}
use Rattle.rs_core.specs.Plain.{Moment, Ended, IsPlain}
use Rattle.rs_core.specs.Runs.{IsGiven, HasActors}
use Rattle.rs_core.specs.Histories.{Got, History}
use Rattle.rs_core.proofs.Fifo.{sents, gots}
use Rattle.rs_demos.specs.Acting.{by_demo, talker_behind_value, number_told, ring_behind}
use Rattle.rs_demos.specs.Numbers.{SpellsNumbers, takes_numbers}
use Rattle.rs_demos.specs.Outputs.{output_of, result_of}
use Rattle.rs_demos.specs.Results.{Computes, results_text, sums_of, sum_of_numbers, in_64_bits}
use Rattle.rs_demos.specs.Sessions.{demo_machines, next_in_ring, previous_in_ring, ring_machine, ring_pairs, role}
use Rattle.rs_demos.specs.Starts.{StartsWithActors, ring_member}
use Rattle.rs_demos.specs.declared.actors.DemoTalker.{DemoTalker}
use Rattle.rs_demos.specs.declared.actors.DemoTalker.TheVariants as actor
use Rattle.rs_demos.specs.declared.parts.RingMember.{RingMember}
use Rattle.rs_demos.proofs.Butterflies.{same_lists, mapped, many_mapped, start_states, whole_numbers}
use Rattle.rs_demos.proofs.Playing.{sents_cons, gots_cons}
use Rattle.rs_demos.proofs.Ran.{Ran, ran, playing}
use Rattle.rs_demos.proofs.Ranges.{in_range, mapped_at}
use Rattle.rs_demos.proofs.Trading.{Trades, held, trades}

-- what is sent and got

abbrev msg : Value → Message
msg v = record { label = record { 0 = 0 }; value = v }

-- a number before each value that comes
abbrev all_sent : DemoTalker → List Value → List Message
all_sent x [] = []
all_sent x (v ∷ vs) = msg (value.Whole (held x)) ∷ all_sent (talker_behind_value x v) vs

abbrev told_all : DemoTalker → List Value → DemoTalker
told_all x [] = x
told_all x (v ∷ vs) = told_all (talker_behind_value x v) vs

record Traded (count q r : ℕ) (x y : DemoTalker) (h : History) : Type 0 where
  values : List Value
  many : length values ≡ count
  sent : sents q h ≡ all_sent x values
  got : gots r h ≡ map msg values
  left : told_all x values ≡ y

traded : (xs : List ℕ) (q r : ℕ) (x y : DemoTalker) (h : History) → Trades (map (λ (round : ℕ). (q, r)) xs) y x h → Traded (length xs) q r x y h
traded [] q r x y h t = record { values = []; many = refl; sent = ap (λ (z : History). sents q z) t.0; got = ap (λ (z : History). gots r z) t.0; left = t.1 }
traded (n ∷ xs) q r x y h t =
    let on = traded xs q r (talker_behind_value x t.came) y t.later t.rest in
    record {
      values = t.came ∷ on.values;
      many = ap suc on.many;
      sent = ap (λ (z : History). sents q z) t.history_is ∙ sents_cons q (role q) (record { 0 = 0 }) (value.Whole (held x)) (Got (role r) (record { 0 = 0 }) t.came ∷ t.later) refl
          ∙ ap (λ (z : List Message). msg (value.Whole (held x)) ∷ z) on.sent;
      got = ap (λ (z : History). gots r z) t.history_is ∙ gots_cons r (role r) (record { 0 = 0 }) t.came t.later refl ∙ ap (λ (z : List Message). msg t.came ∷ z) on.got;
      left = on.left;
    }

many_sent : (x : DemoTalker) (vs : List Value) → length (all_sent x vs) ≡ length vs
many_sent x [] = refl
many_sent x (v ∷ vs) = ap suc (many_sent (talker_behind_value x v) vs)

ring_stays : (m : RingMember) (v : Value) → (k : RingMember) × (talker_behind_value (actor.RingMember m) v ≡ actor.RingMember k)
ring_stays m v = (ring_behind m (number_told v), refl)

first_sent : (m : RingMember) (vs : List Value) → 0 < length vs → slice_get (all_sent (actor.RingMember m) vs) 0 ≡ Some (msg (value.Whole m.last))
first_sent m [] h = absurd (omega arith)
first_sent m (v ∷ vs) h = refl

-- what comes is sent next
next_sent : (vs : List Value) (m : RingMember) (r : ℕ) (c : ℤ) → slice_get vs r ≡ Some (value.Whole c) → suc r < length vs
    → slice_get (all_sent (actor.RingMember m) vs) (suc r) ≡ Some (msg (value.Whole c))
next_sent [] m r c e lt = absurd (omega arith)
next_sent (v ∷ vs) m zero c e lt =
    let is : v ≡ value.Whole c = cc (e) in
    ap (λ (z : Value). slice_get (all_sent (talker_behind_value (actor.RingMember m) z) vs) 0) is ∙ first_sent (record { last = c; sum = in_64_bits (m.sum +ℤ c) }) vs (omega arith)
next_sent (v ∷ vs) m (suc r) c e lt =
    let k = ring_stays m v in
    ap (λ (z : DemoTalker). slice_get (all_sent z vs) (suc r)) k.1 ∙ next_sent vs k.0 r c e (omega arith)

unmapped : (vs : List Value) (r : ℕ) (w : Value) → slice_get (map msg vs) r ≡ Some (msg w) → slice_get vs r ≡ Some w
unmapped [] r w e = absurd (cc (e))
unmapped (v ∷ vs) zero w e =
    let h : msg v ≡ msg w = cc (e) in
    ap (λ (m : Message). Some m.value) h
unmapped (v ∷ vs) (suc r) w e = unmapped vs r w e

-- the neighbours

abbrev neighbours : ℕ → ℕ → Bool
neighbours n i =
    ((previous_in_ring n i == (if i == 0 then n - 1 else i - 1)) && (next_in_ring n (previous_in_ring n i) == i))
    && (nat_lt (previous_in_ring n i) n && not (previous_in_ring n i == i))

record Neighbours (n i : ℕ) : Type 0 where
  before : previous_in_ring n i ≡ (if i == 0 then n - 1 else i - 1)
  back : next_in_ring n (previous_in_ring n i) ≡ i
  within : previous_in_ring n i < n
  other : previous_in_ring n i ≢ i

eq_by : (x y : ℕ) → (x == y) ≡ true → x ≡ y
eq_by x y h = elim (eqb_tells x y) [ inl t ↦ t.1 | inr t ↦ absurd (false≢true (sym t.0 ∙ h)) ]

ne_by : (x y : ℕ) → not (x == y) ≡ true → x ≢ y
ne_by x y h e = elim (eqb_tells x y) [ inl t ↦ false≢true (ap not (sym t.0) ∙ h) | inr t ↦ t.1 e ]

all_neighbours : list_all (λ (n : ℕ). list_all (neighbours n) (range_with_len 0 n)) (range_with_len 2 15) ≡ true
all_neighbours = refl

neighbours_of : (n i : ℕ) → 2 ≤ n → n ≤ 16 → i < n → Neighbours n i
neighbours_of n i low high lt =
    let e : 2 + (n - 2) ≡ n = omega arith in
    let P : ℕ → Type 0 = λ z. list_all (neighbours z) (range_with_len 0 z) ≡ true in
    let here = subst P e (in_range (λ (z : ℕ). list_all (neighbours z) (range_with_len 0 z)) 15 2 (n - 2) all_neighbours (omega arith)) in
    let f : 0 + i ≡ i = omega arith in
    let Q : ℕ → Type 0 = λ z. neighbours n z ≡ true in
    let t = subst Q f (in_range (neighbours n) n 0 i here lt) in
    let p = and_parts ((previous_in_ring n i == (if i == 0 then n - 1 else i - 1)) && (next_in_ring n (previous_in_ring n i) == i)) (nat_lt (previous_in_ring n i) n && not (previous_in_ring n i == i))
    t in
    let a = and_parts (previous_in_ring n i == (if i == 0 then n - 1 else i - 1)) (next_in_ring n (previous_in_ring n i) == i) p.0 in
    let b = and_parts (nat_lt (previous_in_ring n i) n) (not (previous_in_ring n i == i)) p.1 in
    record {
      before = eq_by (previous_in_ring n i) (if i == 0 then n - 1 else i - 1) a.0;
      back = eq_by (next_in_ring n (previous_in_ring n i)) i a.1;
      within = ltb-true (previous_in_ring n i) n b.0;
      other = ne_by (previous_in_ring n i) i b.1;
    }

before_first : (n : ℕ) → 2 ≤ n → n ≤ 16 → previous_in_ring n 0 ≡ n - 1
before_first n low high = (neighbours_of n 0 low high (omega arith)).before

before_next : (n i : ℕ) → 2 ≤ n → n ≤ 16 → suc i < n → previous_in_ring n (suc i) ≡ i
before_next n i low high lt =
    let b = (neighbours_of n (suc i) low high lt).before in
    let c : (if suc i == 0 then n - 1 else suc i - 1) ≡ suc i - 1 =
    elim (eqb_tells (suc i) 0) [ inl t ↦ absurd (let h = t.1 in omega arith) | inr t ↦ ap (λ (z : Bool). if z then n - 1 else suc i - 1) t.0 ] in
    let d : suc i - 1 ≡ i = omega arith in
    b ∙ c ∙ d

-- sums round the ring

-- so many numbers, going back from place i
abbrev numbers_back : ℕ → (ℕ → ℤ) → ℕ → ℕ → List ℤ
numbers_back n z zero i = []
numbers_back n z (suc k) i = z i ∷ numbers_back n z k (previous_in_ring n i)

abbrev back : ℕ → ℕ → ℕ → ℕ
back n zero i = i
back n (suc r) i = back n r (previous_in_ring n i)

back_at : (n : ℕ) (z : ℕ → ℤ) (k i r : ℕ) → r < k → slice_get (numbers_back n z k i) r ≡ Some (z (back n r i))
back_at n z zero i r h = absurd (omega arith)
back_at n z (suc k) i zero h = refl
back_at n z (suc k) i (suc r) h = back_at n z k (previous_in_ring n i) r (omega arith)

many_back : (n : ℕ) (z : ℕ → ℤ) (k i : ℕ) → length (numbers_back n z k i) ≡ k
many_back n z zero i = refl
many_back n z (suc k) i = ap suc (many_back n z k (previous_in_ring n i))

-- the sum of the numbers from place m on
abbrev sum_from : (ℕ → ℤ) → ℕ → ℕ → ℤ
sum_from z m zero = pos 0
sum_from z m (suc k) = z (m + k) +ℤ sum_from z m k

swap_add : (a b c : ℤ) → a +ℤ (b +ℤ c) ≡ b +ℤ (a +ℤ c)
swap_add a b c = omega (arith, ints)

assoc_add : (a b c : ℤ) → (a +ℤ b) +ℤ c ≡ a +ℤ (b +ℤ c)
assoc_add a b c = omega (arith, ints)

zero_left : (a : ℤ) → a ≡ pos 0 +ℤ a
zero_left a = omega (arith, ints)

zero_right : (a : ℤ) → a ≡ a +ℤ pos 0
zero_right a = omega (arith, ints)

run_back : (n : ℕ) (z : ℕ → ℤ) (k m j : ℕ) → 2 ≤ n → n ≤ 16 → suc j ≡ m + k → j < n → sum_of_numbers (numbers_back n z k j) ≡ sum_from z m k
run_back n z zero m j low high e lt = refl
run_back n z (suc zero) m j low high e lt = let f : j ≡ m + 0 = omega arith in ap (λ (i : ℕ). z i +ℤ pos 0) f
run_back n z (suc (suc k)) m zero low high e lt = absurd (omega arith)
run_back n z (suc (suc k)) m (suc j) low high e lt =
    let f : suc j ≡ m + suc k = omega arith in
    let on = run_back n z (suc k) m j low high (omega arith) (omega arith) in
    ap (λ (i : ℕ). z (suc j) +ℤ sum_of_numbers (numbers_back n z (suc k) i)) (before_next n j low high lt)
    ∙ ap₂ (λ (i : ℕ) (s : ℤ). z i +ℤ s) f on

split_back : (n : ℕ) (z : ℕ → ℤ) (a b i : ℕ) → sum_of_numbers (numbers_back n z (a + b) i) ≡ sum_of_numbers (numbers_back n z a i) +ℤ sum_of_numbers (numbers_back n z b (back n a i))
split_back n z zero b i = let e : zero + b ≡ b = omega arith in ap (λ (k : ℕ). sum_of_numbers (numbers_back n z k i)) e ∙ zero_left (sum_of_numbers (numbers_back n z b i))
split_back n z (suc a) b i =
    let e : suc a + b ≡ suc (a + b) = omega arith in
    ap (λ (k : ℕ). sum_of_numbers (numbers_back n z k i)) e ∙ ap (λ (s : ℤ). z i +ℤ s) (split_back n z a b (previous_in_ring n i))
    ∙ sym (assoc_add (z i) (sum_of_numbers (numbers_back n z a (previous_in_ring n i))) (sum_of_numbers (numbers_back n z b (back n a (previous_in_ring n i)))))

back_down : (n i : ℕ) → 2 ≤ n → n ≤ 16 → i < n → back n (suc i) i ≡ n - 1
back_down n zero low high lt = before_first n low high
back_down n (suc i) low high lt = ap (λ (k : ℕ). back n (suc i) k) (before_next n i low high lt) ∙ back_down n i low high (omega arith)

split_sum : (z : ℕ → ℤ) (m a b : ℕ) → sum_from z m (a + b) ≡ sum_from z m a +ℤ sum_from z (m + a) b
split_sum z m a zero = let e : a + zero ≡ a = omega arith in ap (λ (k : ℕ). sum_from z m k) e ∙ zero_right (sum_from z m a)
split_sum z m a (suc b) =
    let e : a + suc b ≡ suc (a + b) = omega arith in
    let f : m + (a + b) ≡ (m + a) + b = omega arith in
    ap (λ (k : ℕ). sum_from z m k) e ∙ ap₂ (λ (i : ℕ) (s : ℤ). z i +ℤ s) f (split_sum z m a b)
    ∙ swap_add (z ((m + a) + b)) (sum_from z m a) (sum_from z (m + a) b)

first_of_sum : (z : ℕ → ℤ) (m k : ℕ) → sum_from z m (suc k) ≡ z m +ℤ sum_from z (suc m) k
first_of_sum z m zero = let e : m + zero ≡ m = omega arith in ap (λ (i : ℕ). z i +ℤ pos 0) e
first_of_sum z m (suc k) =
    let e : m + suc k ≡ suc m + k = omega arith in
    ap₂ (λ (i : ℕ) (s : ℤ). z i +ℤ s) e (first_of_sum z m k) ∙ swap_add (z (suc m + k)) (z m) (sum_from z (suc m) k)

total_is : (zs : List ℤ) (z : ℕ → ℤ) (m : ℕ) → ((j : ℕ) → j < length zs → z (m + j) ≡ get_or zs j (pos 0)) → sum_of_numbers zs ≡ sum_from z m (length zs)
total_is [] z m h = refl
total_is (x ∷ xs) z m h =
    let e : m ≡ m + 0 = omega arith in
    let first : z m ≡ x = ap z e ∙ h 0 (omega arith) in
    let later = total_is xs z (suc m) (λ j lt. (let f : suc m + j ≡ m + suc j = omega arith in ap z f ∙ h (suc j) (omega arith))) in
    ap₂ (λ (a b : ℤ). a +ℤ b) (sym first) later ∙ sym (first_of_sum z m (length xs))

-- all numbers, going back once round the ring
once_round : (zs : List ℤ) (n i : ℕ) → 2 ≤ n → n ≤ 16 → length zs ≡ n → i < n → sum_of_numbers (numbers_back n (λ (j : ℕ). get_or zs j (pos 0)) n i) ≡ sum_of_numbers zs
once_round zs n i low high many lt =
    let e : n ≡ suc i + (n - suc i) = omega arith in
    let one = run_back n (λ (j : ℕ). get_or zs j (pos 0)) (suc i) 0 i low high (omega arith) lt in
    let two = run_back n (λ (j : ℕ). get_or zs j (pos 0)) (n - suc i) (suc i) (n - 1) low high (omega arith) (omega arith) in
    let zero-plus : 0 + suc i ≡ suc i = omega arith in
    let whole = total_is zs (λ (j : ℕ). get_or zs j (pos 0)) 0 (λ j l. (let f : 0 + j ≡ j = omega arith in ap (λ (k : ℕ). get_or zs k (pos 0)) f)) in
    ap (λ (k : ℕ). sum_of_numbers (numbers_back n (λ (j : ℕ). get_or zs j (pos 0)) k i)) e
    ∙ split_back n (λ (j : ℕ). get_or zs j (pos 0)) (suc i) (n - suc i) i
    ∙ ap (λ (k : ℕ). sum_of_numbers (numbers_back n (λ (j : ℕ). get_or zs j (pos 0)) (suc i) i) +ℤ sum_of_numbers (numbers_back n (λ (j : ℕ). get_or zs j (pos 0)) (n - suc i) k))
    (back_down n i low high lt)
    ∙ ap₂ (λ (a b : ℤ). a +ℤ b) one two
    ∙ ap (λ (k : ℕ). sum_from (λ (j : ℕ). get_or zs j (pos 0)) 0 (suc i) +ℤ sum_from (λ (j : ℕ). get_or zs j (pos 0)) k (n - suc i)) (sym zero-plus)
    ∙ sym (split_sum (λ (j : ℕ). get_or zs j (pos 0)) 0 (suc i) (n - suc i))
    ∙ ap (λ (k : ℕ). sum_from (λ (j : ℕ). get_or zs j (pos 0)) 0 k) (sym e ∙ sym many)
    ∙ sym whole

-- what a member has summed

summed : (cs : List ℤ) (m : RingMember) (s : ℤ) → m.sum ≡ in_64_bits s → result_of (told_all (actor.RingMember m) (map value.Whole cs)) ≡ in_64_bits (s +ℤ sum_of_numbers cs)
summed [] m s e = e ∙ ap in_64_bits (zero_right s)
summed (c ∷ cs) m s e =
    let f : in_64_bits (m.sum +ℤ c) ≡ in_64_bits (s +ℤ c) = ap (λ (x : ℤ). in_64_bits (x +ℤ c)) e ∙ int_wrap-add_left w64 s c in
    summed cs (record { last = c; sum = in_64_bits (m.sum +ℤ c) }) (s +ℤ c) f ∙ ap in_64_bits (assoc_add s c (sum_of_numbers cs))

same_values : (xs ys : List Value) → length xs ≡ length ys → ((i : ℕ) → i < length xs → slice_get xs i ≡ slice_get ys i) → xs ≡ ys
same_values [] [] n h = refl
same_values [] (y ∷ ys) n h = absurd (omega (arith, n))
same_values (x ∷ xs) [] n h = absurd (omega (arith, n))
same_values (x ∷ xs) (y ∷ ys) n h =
    let first : Some x ≡ Some y = h 0 (omega arith) in
    let rest = same_values xs ys (omega (arith, n)) (λ i lt. h (suc i) (omega arith)) in
    cc (first, rest)

no_queue : (xs q ys : List Message) → xs ++ q ≡ ys → length ys ≡ length xs → xs ≡ ys
no_queue xs [] ys e n = sym (append-nil xs) ∙ e
no_queue xs (m ∷ q) ys e n = absurd (omega (arith, n, ap length e, length-append xs (m ∷ q)))

abbrev ring_at : (ℕ → ℤ) → ℕ → DemoTalker
ring_at z i = ring_member (z i)

abbrev AllTraded : ℕ → (ℕ → ℤ) → (ℕ → History) → (ℕ → DemoTalker) → Type 0
AllTraded n z h y = (i : ℕ) → i < n → Traded (n - 1) (next_in_ring n i) (previous_in_ring n i) (ring_at z i) (y i) (h i)

-- what role i gets is what the one before it sends
passed_on : (n : ℕ) (z : ℕ → ℤ) (h : ℕ → History) (y : ℕ → DemoTalker) → 2 ≤ n → n ≤ 16 → (t : AllTraded n z h y)
    → ((a b : ℕ) → a ≢ b → (q : List Message) × (gots a (h b) ++ q ≡ sents b (h a)))
    → (i : ℕ) (lt : i < n) (ltp : previous_in_ring n i < n)
    → map msg (t i lt).values ≡ all_sent (ring_at z (previous_in_ring n i)) (t (previous_in_ring n i) ltp).values
passed_on n z h y low high t fifo i lt ltp =
    let nb = neighbours_of n i low high lt in
    let f = fifo (previous_in_ring n i) i nb.other in
    let sent : sents i (h (previous_in_ring n i)) ≡ all_sent (ring_at z (previous_in_ring n i)) (t (previous_in_ring n i) ltp).values =
    ap (λ (k : ℕ). sents k (h (previous_in_ring n i))) (sym nb.back) ∙ (t (previous_in_ring n i) ltp).sent in
    no_queue (map msg (t i lt).values) f.0 (all_sent (ring_at z (previous_in_ring n i)) (t (previous_in_ring n i) ltp).values)
    (ap (λ (k : List Message). k ++ f.0) (sym (t i lt).got) ∙ f.1 ∙ sent)
    (many_sent (ring_at z (previous_in_ring n i)) (t (previous_in_ring n i) ltp).values ∙ (t (previous_in_ring n i) ltp).many ∙ sym (t i lt).many ∙ sym (many_mapped msg (t i lt).values))

value_at : (n : ℕ) (z : ℕ → ℤ) (h : ℕ → History) (y : ℕ → DemoTalker) → 2 ≤ n → n ≤ 16 → (t : AllTraded n z h y)
    → ((a b : ℕ) → a ≢ b → (q : List Message) × (gots a (h b) ++ q ≡ sents b (h a)))
    → (r i : ℕ) (lt : i < n) → r < n - 1 → slice_get (t i lt).values r ≡ Some (value.Whole (z (back n (suc r) i)))
value_at n z h y low high t fifo zero i lt few =
    let ltp = (neighbours_of n i low high lt).within in
    let e = passed_on n z h y low high t fifo i lt ltp in
    let first = first_sent (record { last = z (previous_in_ring n i); sum = z (previous_in_ring n i) }) (t (previous_in_ring n i) ltp).values (omega (arith, (t (previous_in_ring n i) ltp).many)) in
    unmapped (t i lt).values 0 (value.Whole (z (previous_in_ring n i))) (ap (λ (k : List Message). slice_get k 0) e ∙ first)
value_at n z h y low high t fifo (suc r) i lt few =
    let ltp = (neighbours_of n i low high lt).within in
    let e = passed_on n z h y low high t fifo i lt ltp in
    let before = value_at n z h y low high t fifo r (previous_in_ring n i) ltp (omega arith) in
    let next = next_sent (t (previous_in_ring n i) ltp).values (record { last = z (previous_in_ring n i); sum = z (previous_in_ring n i) }) r
    (z (back n (suc r) (previous_in_ring n i))) before (omega (arith, (t (previous_in_ring n i) ltp).many)) in
    unmapped (t i lt).values (suc r) (value.Whole (z (back n (suc r) (previous_in_ring n i)))) (ap (λ (k : List Message). slice_get k (suc r)) e ∙ next)

-- the sum that role i has at the end
sum_at : (n : ℕ) (zs : List ℤ) (h : ℕ → History) (y : ℕ → DemoTalker) → 2 ≤ n → n ≤ 16 → length zs ≡ n
    → ((j : ℕ) → get_or zs j (pos 0) ≡ in_64_bits (get_or zs j (pos 0)))
    → AllTraded n (λ (j : ℕ). get_or zs j (pos 0)) h y → ((a b : ℕ) → a ≢ b → (q : List Message) × (gots a (h b) ++ q ≡ sents b (h a)))
    → (i : ℕ) → i < n → result_of (y i) ≡ in_64_bits (sum_of_numbers zs)
sum_at n zs h y low high many fits t fifo i lt =
    let same : (t i lt).values ≡ map value.Whole (numbers_back n (λ (j : ℕ). get_or zs j (pos 0)) (n - 1) (previous_in_ring n i)) =
    same_values (t i lt).values (map value.Whole (numbers_back n (λ (j : ℕ). get_or zs j (pos 0)) (n - 1) (previous_in_ring n i)))
    ((t i lt).many ∙ sym (many_back n (λ (j : ℕ). get_or zs j (pos 0)) (n - 1) (previous_in_ring n i))
    ∙ sym (many_mapped value.Whole (numbers_back n (λ (j : ℕ). get_or zs j (pos 0)) (n - 1) (previous_in_ring n i))))
    (λ r few. (let less : r < n - 1 = omega (arith, (t i lt).many, few) in
    value_at n (λ (j : ℕ). get_or zs j (pos 0)) h y low high t fifo r i lt less
    ∙ sym (mapped value.Whole (numbers_back n (λ (j : ℕ). get_or zs j (pos 0)) (n - 1) (previous_in_ring n i)) r (get_or zs (back n r (previous_in_ring n i)) (pos 0))
    (back_at n (λ (j : ℕ). get_or zs j (pos 0)) (n - 1) (previous_in_ring n i) r less)))) in
    let sum = summed (numbers_back n (λ (j : ℕ). get_or zs j (pos 0)) (n - 1) (previous_in_ring n i)) (record { last = get_or zs i (pos 0); sum = get_or zs i (pos 0) }) (get_or zs i (pos 0)) (fits i)
    in
    let e : suc (n - 1) ≡ n = omega arith in
    let round : get_or zs i (pos 0) +ℤ sum_of_numbers (numbers_back n (λ (j : ℕ). get_or zs j (pos 0)) (n - 1) (previous_in_ring n i)) ≡ sum_of_numbers zs =
    ap (λ (k : ℕ). sum_of_numbers (numbers_back n (λ (j : ℕ). get_or zs j (pos 0)) k i)) e ∙ once_round zs n i low high many lt in
    ap result_of (sym (t i lt).left)
    ∙ ap (λ (vs : List Value). result_of (told_all (ring_at (λ (j : ℕ). get_or zs j (pos 0)) i) vs)) same ∙ sum ∙ ap in_64_bits round

-- a run

machine_of : (n i : ℕ) → i < n → slice_get (demo_machines demo.Ring n) i ≡ Some (ring_machine n i)
machine_of n i h = let e : 0 + i ≡ i = omega arith in mapped_at (ring_machine n) n 0 i h ∙ ap (λ (k : ℕ). Some (ring_machine n k)) e

number_at : (zs : List ℤ) (i : ℕ) → i < length zs → slice_get zs i ≡ Some (get_or zs i (pos 0))
number_at [] i h = absurd (omega arith)
number_at (z ∷ zs) zero h = refl
number_at (z ∷ zs) (suc i) h = number_at zs i (omega arith)

many_range : (k a : ℕ) → length (range_with_len a k) ≡ k
many_range zero a = refl
many_range (suc k) a = ap suc (many_range k (a + 1))

results : (n : ℕ) (zs : List ℤ) (bytes : List ℕ) (actors after : List DemoTalker) (given : ℕ → DemoTalker) (end : Moment DemoTalker)
    → 2 ≤ n → n ≤ 16 → length zs ≡ n → SpellsNumbers zs bytes → actors ≡ map ring_member zs → IsGiven given actors → Ran (demo_machines demo.Ring n) given end
    → HasActors n end.actor after → map result_of after ≡ sums_of zs
results n zs bytes actors after given end low high many spells is g r has =
    same_lists (map result_of after) (sums_of zs)
    (many_mapped result_of after ∙ has.many ∙ sym many ∙ sym (many_mapped (λ (z : ℤ). in_64_bits (sum_of_numbers zs)) zs))
    (λ i lt. each i (omega (arith, lt, many_mapped result_of after, has.many)))
  where
    all : AllTraded n (λ (j : ℕ). get_or zs j (pos 0)) end.history end.actor
    all i lt =
        let there = machine_of n i lt in
        let x : given i ≡ ring_member (get_or zs i (pos 0)) =
        g i (ring_member (get_or zs i (pos 0))) (ap (λ (z : List DemoTalker). slice_get z i) is ∙ mapped ring_member zs i (get_or zs i (pos 0)) (number_at zs i (omega (arith, many)))) in
        let tr = trades (end.history i) (ring_pairs n i) (ring_machine n i) 0 (ring_member (get_or zs i (pos 0))) (end.at.at i) (end.actor i) refl
        (start_states (ring_machine n i) (ring_pairs n i) refl) (playing (demo_machines demo.Ring n) given end i (ring_machine n i) (ring_member (get_or zs i (pos 0))) r there x)
        (r.over i (ring_machine n i) there) in
        let P : ℕ → Type 0 = λ k. Traded k (next_in_ring n i) (previous_in_ring n i) (ring_member (get_or zs i (pos 0))) (end.actor i) (end.history i) in
        subst P (many_range (n - 1) 1)
        (traded (range_with_len 1 (n - 1)) (next_in_ring n i) (previous_in_ring n i) (ring_member (get_or zs i (pos 0))) (end.actor i) (end.history i) tr)

    each : (i : ℕ) → i < n → slice_get (map result_of after) i ≡ slice_get (sums_of zs) i
    each i lt =
        let ours = mapped result_of after i (end.actor i) (has.each i lt) in
        let sum = sum_at n zs end.history end.actor low high many (λ j. whole_numbers zs bytes j spells) all (λ a b ne. (end.at.queue a b, r.fifo a b ne)) i lt in
        let theirs = mapped (λ (z : ℤ). in_64_bits (sum_of_numbers zs)) zs i (get_or zs i (pos 0)) (number_at zs i (omega (arith, many))) in
        ours ∙ ap (λ (z : ℤ). Some z) sum ∙ sym theirs

pub ring_run : (bytes : List ℕ) (actors after : List DemoTalker) (given : ℕ → DemoTalker) (limit : ℕ) (capacity : Option ℕ) (end : Moment DemoTalker)
    → StartsWithActors demo.Ring bytes actors → IsGiven given actors → IsPlain (demo_machines demo.Ring (length actors)) by_demo given limit capacity (Ended end)
    → HasActors (length actors) end.actor after → Computes demo.Ring bytes (output_of demo.Ring after)
ring_run bytes actors after given limit capacity end s g is has =
    let many : length s.0 ≡ length actors = sym (many_mapped ring_member s.0) ∙ ap length (sym s.2) in
    let takes : takes_numbers demo.Ring (length actors) ≡ true = ap (takes_numbers demo.Ring) (sym many) ∙ s.1.0 in
    let p = and_parts (nat_le 2 (length actors)) (nat_le (length actors) 16) takes in
    let low : 2 ≤ length actors = leb-true 2 (length actors) p.0 in
    let high : length actors ≤ 16 = leb-true (length actors) 16 p.1 in
    let e = results (length actors) s.0 bytes actors after given end low high many s.1.1 s.2 g
    (ran (demo_machines demo.Ring (length actors)) given limit capacity end is) has in
    (s.0, s.1, ap results_text e)
