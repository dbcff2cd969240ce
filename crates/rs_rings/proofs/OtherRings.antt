-- A step on one ring: all others stay.
use Rattle.std.proofs.Common.{◌≡◌, ◌≢◌, ◌⊎◌, ℕ, ◌<◌, List, refl, sym, ◌∙◌, subst, inl, inr, ⊎_elim, slice_index, Option}
use mathlib.Core.Option as maybe
use native.Mathlib.Decide.{ℕ_discrete}
use mathlib.Core.Logic.{dite}
use lib.ListN.{get_elem?}
use Rattle.atomic_table.specs.Table.{State}
use Rattle.rs_slots.specs.declared.parcels.Parcel.{Parcel}
use Rattle.rs_rings.specs.declared.views.Part.{Part}
use Rattle.rs_rings.specs.declared.views.View.{View}
use Rattle.rs_rings.specs.declared.views.Key.{Key}
use Rattle.rs_slots.specs.Places.{IsPair}
use Rattle.rs_rings.specs.Acts.{parcels_sent, parcels_got}
use Rattle.rs_rings.specs.Places.{head_word_of, tail_of, slot_place}
use Rattle.rs_rings.specs.Rule.{RingRule, ring_facts, AllRings}
use Rattle.rs_rings.specs.Views.{last_found, loads_with, stamps_with, is_putting, parcel_in_hand}
use Rattle.rs_rings.proofs.Parts.{at_put, put_case}

abbrev pub Homes : Type 0
Homes = List (maybe.Option (Option Parcel))

abbrev pub St : Type 0
St = State (Option Parcel) View

-- what one part keeps toward y as a sender, and as a receiver
abbrev pub SendsAs : ℕ → Part → Part → Type 0
SendsAs y a a' = (parcels_sent y a'.history ≡ parcels_sent y a.history) × (last_found y a'.heads ≡ last_found y a.heads) × (is_putting y a'.middle ≡ is_putting y a.middle)
    × (loads_with y a'.heads ≡ loads_with y a.heads) × (stamps_with y a'.put_stamps ≡ stamps_with y a.put_stamps)

abbrev pub TakesAs : ℕ → Part → Part → Type 0
TakesAs y a a' = (parcels_got y a'.history ≡ parcels_got y a.history) × (last_found y a'.tails ≡ last_found y a.tails) × (parcel_in_hand y a'.middle ≡ parcel_in_hand y a.middle)
    × (loads_with y a'.tails ≡ loads_with y a.tails) × (stamps_with y a'.take_stamps ≡ stamps_with y a.take_stamps)

module _ (key : Key) (p q : ℕ) (words words' : List ℕ) (homes homes' : Homes) where
  abbrev n : ℕ
  n = key.roles

  abbrev cap : ℕ
  cap = key.capacity

  -- the words and slots of the other rings stay
  abbrev pub Else : Type 0
  Else = (x y : ℕ) → IsPair n x y → ((x ≡ p) × (y ≡ q) → ⊥) → (slice_index words' (tail_of n x y) ≡ slice_index words (tail_of n x y))
      × (slice_index words' (head_word_of n x y) ≡ slice_index words (head_word_of n x y))
      × ((k : ℕ) → get_elem? homes' (slot_place n cap x y k) ≡ get_elem? homes (slot_place n cap x y k))

  other_facts : (x y : ℕ) (a b a' b' : Part) → IsPair n x y → ((x ≡ p) × (y ≡ q) → ⊥) → Else → SendsAs y a a' → TakesAs x b b'
      → ring_facts n cap words homes x y a b ≡ ring_facts n cap words' homes' x y a' b'
  other_facts x y a b a' b' l not else s t i = let e = else x y l not in record {
    tail = sym e.0 i;
    head = sym e.1 i;
    slot = λ k. sym (e.2 k) i;
    sent = sym s.0 i;
    got = sym t.0 i;
    seen_head = sym s.1 i;
    seen_tail = sym t.1 i;
    head_loads = sym s.3 i;
    tail_loads = sym t.3 i;
    put_stamps = sym s.4 i;
    take_stamps = sym t.4 i;
    putting = sym s.2 i;
    taking = sym t.2 i;
  }

  module _ (known : ℕ → Part) (rings : AllRings n cap words homes known) (else : Else) where
    -- the part of r changes: p, toward q alone and as a sender, or q, toward p alone and as a receiver
    rings_move : (r : ℕ) (a' : Part) → ((y : ℕ) → r ≢ p ⊎ y ≢ q → SendsAs y (known r) a') → ((x : ℕ) → r ≢ q ⊎ x ≢ p → TakesAs x (known r) a')
        → RingRule cap (ring_facts n cap words' homes' p q (at_put known r a' p) (at_put known r a' q)) → AllRings n cap words' homes' (at_put known r a')
    rings_move r a' sends takes mine x y l m apart = dite (ℕ_discrete x p)
        (λ xp. dite (ℕ_discrete y q) (λ yq. subst (λ (z : ℕ × ℕ). RingRule cap (ring_facts n cap words' homes' z.0 z.1 (at_put known r a' z.0) (at_put known r a' z.1))) (λ i. (sym xp i, sym yq i))
        mine)
        (λ ny. go x y l m apart (λ t. ny t.1) (λ _. inr ny) (λ yr. dite (ℕ_discrete r q) (λ rq. absurd (ny (yr ∙ rq))) (λ nr. inl nr))))
        (λ nx. go x y l m apart (λ t. nx t.0) (λ xr. inl (λ rp. nx (xr ∙ rp))) (λ _. inr nx))
      where
        go : (x y : ℕ) → x < n → y < n → x ≢ y → ((x ≡ p) × (y ≡ q) → ⊥) → (x ≡ r → r ≢ p ⊎ y ≢ q) → (y ≡ r → r ≢ q ⊎ x ≢ p)
            → RingRule cap (ring_facts n cap words' homes' x y (at_put known r a' x) (at_put known r a' y))
        go x y l m apart not s t = subst (RingRule cap) (other_facts x y (known x) (known y) (at_put known r a' x) (at_put known r a' y) record { sender = l; receiver = m; differ = apart } not else
            (put_case known r a' x (λ z. SendsAs y (known x) z) (λ e. subst (λ (k : ℕ). SendsAs y (known k) a') (sym e) (sends y (s e))) (λ _. (refl, refl, refl, refl, refl)))
            (put_case known r a' y (λ z. TakesAs x (known y) z) (λ e. subst (λ (k : ℕ). TakesAs x (known k) a') (sym e) (takes x (t e))) (λ _. (refl, refl, refl, refl, refl)))) (rings x y l m apart)

    pub sender_moves : (a' : Part) → p ≢ q → ((y : ℕ) → y ≢ q → SendsAs y (known p) a') → ((x : ℕ) → TakesAs x (known p) a') → RingRule cap (ring_facts n cap words' homes' p q a' (known q))
        → AllRings n cap words' homes' (at_put known p a')
    sender_moves a' apart sends takes mine = rings_move p a' (λ y or. ⊎_elim (λ (no : p ≢ p). absurd (no refl)) (λ ny. sends y ny) or) (λ x _. takes x)
        (put_case known p a' p (λ z. RingRule cap (ring_facts n cap words' homes' p q z (at_put known p a' q)))
        (λ _. put_case known p a' q (λ z. RingRule cap (ring_facts n cap words' homes' p q a' z)) (λ e. absurd (apart (sym e))) (λ _. mine)) (λ no. absurd (no refl)))

    pub receiver_moves : (b' : Part) → p ≢ q → ((y : ℕ) → SendsAs y (known q) b') → ((x : ℕ) → x ≢ p → TakesAs x (known q) b') → RingRule cap (ring_facts n cap words' homes' p q (known p) b')
        → AllRings n cap words' homes' (at_put known q b')
    receiver_moves b' apart sends takes mine = rings_move q b' (λ y _. sends y) (λ x or. ⊎_elim (λ (no : q ≢ q). absurd (no refl)) (λ nx. takes x nx) or)
        (put_case known q b' q (λ z. RingRule cap (ring_facts n cap words' homes' p q (at_put known q b' p) z))
        (λ _. put_case known q b' p (λ z. RingRule cap (ring_facts n cap words' homes' p q z b')) (λ e. absurd (apart e)) (λ _. mine)) (λ no. absurd (no refl)))
