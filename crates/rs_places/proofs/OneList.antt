-- A text has places, and no others.
use Rattle.std.proofs.Common.{◌≡◌, ℕ, ◌<◌, List, [], length, map, Some, slice_get, refl, sym, ap, ◌∙◌, subst, arith}
use Rattle.std.proofs.lemmas.List.{ext_get_or}
use Rattle.std.proofs.lemmas.List.FromFn.{get_or-map-range_with_len, length-map-range_with_len}
use Rattle.std.proofs.lemmas.Option.{get_or_from_slice_get, slice_get-get_or}
use Rattle.std.specs.List.{range_with_len}
use Rattle.rs_text.specs.Lexemes.{Lexeme}
use Rattle.rs_text.proofs.Nexts.{exists, one_list_law}
use Rattle.rs_places.specs.declared.places.Position.{Position}
use Rattle.rs_places.specs.Data.{Places_data}
use Rattle.rs_places.specs.Places.{ArePlaces, talk_places, state_places}

-- the lists of states, role by role
abbrev all_states : List ℕ → List (List ℕ) → List Lexeme → List (List Position)
all_states bytes roles lexemes = map (state_places bytes roles lexemes) (range_with_len 0 (length roles))

pub some_places : (bytes : List ℕ) (roles : List (List ℕ)) → (places : Places_data) × ArePlaces bytes roles places
some_places bytes roles =
    let tokens = exists bytes 0 (omega arith) in
    let f = state_places bytes roles tokens.0 in
    let count = length-map-range_with_len f 0 (length roles) in (
      record { talks = talk_places bytes tokens.0; machines = all_states bytes roles tokens.0 },
      record {
        lexemes = tokens.0;
        tokens = tokens.1;
        talks = refl;
        count = count;
        states = λ role h. slice_get-get_or (all_states bytes roles tokens.0) role [] (subst (λ (z : ℕ). role < z) (sym count) h) ∙ ap (λ z. Some z) (get_or-map-range_with_len f 0 (length roles) role role [] h (omega arith));
      },
    )

same_lists : (bytes : List ℕ) (roles : List (List ℕ)) (lexemes : List Lexeme) (these others : List (List Position)) → length these ≡ length roles → length others ≡ length roles
    → ((role : ℕ) → role < length roles → slice_get these role ≡ Some (state_places bytes roles lexemes role))
    → ((role : ℕ) → role < length roles → slice_get others role ≡ Some (state_places bytes roles lexemes role)) → these ≡ others
same_lists bytes roles lexemes these others m n h k = ext_get_or [] these others (m ∙ sym n) (λ i l.
    let l2 : i < length roles = subst (λ (z : ℕ). i < z) m l in
    get_or_from_slice_get these i (state_places bytes roles lexemes i) [] (h i l2) ∙ sym (get_or_from_slice_get others i (state_places bytes roles lexemes i) [] (k i l2)))

both : (a b : Places_data) → a.talks ≡ b.talks → a.machines ≡ b.machines → a ≡ b
both a b h k = ap (λ z. record { talks = z; machines = a.machines }) h ∙ ap (λ z. record { talks = b.talks; machines = z }) k

pub one_places : (bytes : List ℕ) (roles : List (List ℕ)) (these others : Places_data) → ArePlaces bytes roles these → ArePlaces bytes roles others → these ≡ others
one_places bytes roles these others h k =
    let same : k.lexemes ≡ h.lexemes = one_list_law bytes 0 k.lexemes h.lexemes k.tokens h.tokens in
    both these others (h.talks ∙ ap (talk_places bytes) (sym same) ∙ sym k.talks)
    (same_lists bytes roles h.lexemes these.machines others.machines h.count k.count h.states (λ role l. k.states role l ∙ ap (λ z. Some (state_places bytes roles z role)) same))
