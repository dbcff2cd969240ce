-- In a text that spells a document each act of its machines stands where its place is.
use Rattle.std.proofs.Common.{◌≡◌, inl, inr, ℕ, ◌<◌, List, [], ◌∷◌, ◌++◌, length, map, filter, Some, option_map, slice_get, false, refl, sym, ap, ◌∙◌, subst, append_assoc, codes}
use Rattle.std.proofs.lemmas.Option.{slice_get-map, slice_get_within}
use Rattle.std.specs.List.{flat_map}
use Rattle.rs_model.specs.Data.{Machine_data}
use Rattle.rs_model.specs.declared.graph.Arm.{Arm}
use Rattle.rs_model.specs.declared.graph.Role.{Role}
use Rattle.rs_text.specs.Lexemes.{Lexeme, signs_of}
use Rattle.rs_text.specs.Lexing.{next_lexeme}
use Rattle.rs_text.specs.Signs.{Sign, plain, number, comma}
use Rattle.rs_text.specs.Tokens.{AreTokens}
use Rattle.rs_text.proofs.Nexts.{one_list_law}
use Rattle.rs_bodies.specs.declared.dialects.Dialect.TheVariants.{Talks}
use Rattle.rs_bodies.specs.declared.dialects.Mark.{Mark}
use Rattle.rs_bodies.specs.Dialects.{mark_sign, state_by_mark}
use Rattle.rs_bodies.specs.Openings.{Opening, of_roles, opening_signs, further_signs}
use Rattle.rs_bodies.specs.Trees.{Body, body_signs}
use Rattle.rs_global.specs.Graph.{no_names}
use Rattle.rs_documents.specs.Data.{Document_data}
use Rattle.rs_documents.specs.Documents.{SpellsDocument}
use Rattle.rs_documents.specs.Parts.{machine_parts, derivation_parts, no_parts}
use Rattle.rs_documents.proofs.Parts.{keeps, none_held, none_there}
use Rattle.rs_documents.proofs.PartKinds.{of_machines}
use Rattle.rs_places.specs.declared.places.Position.{Position}
use Rattle.rs_places.specs.declared.tokens.Part.{Part}
use Rattle.rs_places.specs.declared.tokens.Part.TheVariants as part
use Rattle.rs_places.specs.Beginnings.{ActBegins, BeginsAct}
use Rattle.rs_places.specs.Data.{Places_data}
use Rattle.rs_places.specs.Places.{ArePlaces, position_of, state_places}
use Rattle.rs_places.specs.Starts.{PlacedTrio, Trio, placed, trios, state_starts, offsets_of_role}
use Rattle.rs_places.proofs.BodyWalks.{body_walk, is_still, last_of}
use Rattle.rs_places.proofs.PartWalks.{ShownIn, go, parts_show, tokens_there}
use Rattle.rs_places.proofs.Shows.{IsSeen}
use Rattle.rs_places.proofs.Spots.{is_spot, offsets_are, seen_in, spot_seen, spot_stands, spot_token, spots_are, token_in}
use Rattle.rs_places.proofs.TalkPlaces.{first_of_parts, left_there, roles_stay, signs_at}
use Rattle.rs_places.proofs.Talks.{mapped_there}
use Rattle.rs_places.proofs.Trios.{StandAmong}
use Rattle.rs_places.proofs.Walks.{opens, pass, walk}

-- ---- a whole text

abbrev all_walk : List (List ℕ) → ℕ → List Sign → List (List Sign)
all_walk roles k (a ∷ b ∷ ss) = walk roles k ss part.Other a b
all_walk roles k _ = []

abbrev all_spots : List (List ℕ) → ℕ → List Lexeme → List PlacedTrio
all_spots roles k ls = filter (is_spot k) (placed roles (trios ls) part.Other)

whole_spots : (roles : List (List ℕ)) (k : ℕ) (ls : List Lexeme) → map spot_seen (all_spots roles k ls) ≡ all_walk roles k (signs_of ls)
whole_spots roles k [] = refl
whole_spots roles k (a ∷ []) = refl
whole_spots roles k (a ∷ b ∷ ls) = spots_are roles k ls part.Other a b

whole_stands : (roles : List (List ℕ)) (k : ℕ) (ls : List Lexeme) (n : ℕ) (t : PlacedTrio) → slice_get (all_spots roles k ls) n ≡ Some t → StandAmong ls t.tokens
whole_stands roles k [] n t h = absurd (cc h)
whole_stands roles k (a ∷ []) n t h = absurd (cc h)
whole_stands roles k (a ∷ b ∷ ls) n t h = spot_stands roles (is_spot k) ls part.Other a b n t h

-- ---- the protocol shows nothing

abbrev last_name : List ℕ → List (List ℕ) → List ℕ
last_name s [] = s
last_name s (x ∷ xs) = last_name x xs

further_walk : (roles : List (List ℕ)) (k : ℕ) (xs : List (List ℕ)) (s : List ℕ) (a : Sign) (zs : List Sign)
    → walk roles k (flat_map further_signs xs ++ plain (codes "protocol") ∷ zs) part.Other a (plain s) ≡ walk roles k zs part.Other (plain (last_name s xs)) (plain (codes "protocol"))
further_walk roles k [] s a zs = pass roles k part.Other a (plain s) (plain (codes "protocol")) zs (is_still (plain s) refl refl) refl
further_walk roles k (x ∷ xs) s a zs =
    let rest = flat_map further_signs xs ++ plain (codes "protocol") ∷ zs in
    pass roles k part.Other a (plain s) comma (plain x ∷ rest) (is_still (plain s) refl refl) refl
    ∙ pass roles k part.Other (plain s) comma (plain x) rest (is_still comma refl refl) refl
    ∙ further_walk roles k xs x comma zs

protocol_walk : (roles : List (List ℕ)) (k : ℕ) (o : Opening Talks) (b : Body Talks) (t : Sign) (ts : List Sign) → opens t ≡ false
    → all_walk roles k ((opening_signs Talks o ++ body_signs Talks b) ++ t ∷ ts) ≡ walk roles k ts part.Other (last_of Talks b) t
protocol_walk roles k (of_roles f s xs) b t ts e =
    let line = flat_map further_signs xs in
    let last = plain (codes "protocol") ∷ [] in
    let body = body_signs Talks b in
    let rest = ((line ++ last) ++ body) ++ t ∷ ts in
    pass roles k part.Other (plain (codes "roles")) (plain f) comma (plain s ∷ rest) (is_still (plain f) refl refl) refl
    ∙ pass roles k part.Other (plain f) comma (plain s) rest (is_still comma refl refl) refl
    ∙ ap (λ z. walk roles k z part.Other comma (plain s)) (append_assoc (line ++ last) body (t ∷ ts) ∙ append_assoc line last (body ++ t ∷ ts))
    ∙ further_walk roles k xs s comma (body ++ t ∷ ts)
    ∙ body_walk roles k Talks 0 b (plain (last_name s xs)) (plain (codes "protocol")) t ts (record { names = no_names; last = 0 }) [] 0 (is_still (plain (codes "protocol")) refl refl) e

-- ---- the tokens of an act

two_are : (a b c d : Sign) (x : List Sign) → a ∷ b ∷ [] ≡ x → x ≡ c ∷ d ∷ [] → (a ≡ c) × (b ≡ d)
two_are a b c d x h k = let e : a ∷ b ∷ [] ≡ c ∷ d ∷ [] = h ∙ k in (cc e, cc e)

begins_as : (roles : List (List ℕ)) (n : ℕ) (m : Mark) (peer : Role) (a b : Sign) (x : List Sign) → a ∷ b ∷ [] ≡ x → IsSeen roles n m peer x → BeginsAct roles n m peer a b
begins_as roles n m peer a b x h (name, there, inl e) = let two = two_are a b (plain name) (mark_sign m) x h e in inl ((name, two.0, there), two.1)
begins_as roles n m peer a b x h (name, there, inr e) = let two = two_are a b (number n) (plain name) x h e in inr (two.0, (name, two.1, there))

not_seen : (roles : List (List ℕ)) (n : ℕ) (m : Mark) (peer : Role) (x : List Sign) → [] ≡ x → IsSeen roles n m peer x → ⊥
not_seen roles n m peer x h (name, there, inl e) = cc (h ∙ e)
not_seen roles n m peer x h (name, there, inr e) = cc (h ∙ e)

act_begins : (bytes : List ℕ) (roles : List (List ℕ)) (n : ℕ) (m : Mark) (peer : Role) (ls : List Lexeme) (p : Part) (t : Trio) (x : List Sign) → AreTokens bytes 0 ls → StandAmong ls t → seen_in p t ≡ x
    → IsSeen roles n m peer x → ActBegins bytes roles n m peer (position_of bytes (token_in p t).from)
act_begins bytes roles n m peer ls (part.Body r) t x tokens s e seen = record {
  first = t.first;
  second = t.second;
  stand = record { before = s.before; others = t.third ∷ s.others; tokens = subst (λ (z : List Lexeme). AreTokens bytes 0 z) s.parts tokens };
  place = refl;
  begins = begins_as roles n m peer t.first.sign t.second.sign x e seen;
}
act_begins bytes roles n m peer ls (part.Table r) t x tokens s e seen =
    let apart : ls ≡ (s.before ++ t.first ∷ []) ++ t.second ∷ t.third ∷ s.others = s.parts ∙ sym (append_assoc s.before (t.first ∷ []) (t.second ∷ t.third ∷ s.others)) in
    record {
      first = t.second;
      second = t.third;
      stand = record { before = s.before ++ t.first ∷ []; others = s.others; tokens = subst (λ (z : List Lexeme). AreTokens bytes 0 z) apart tokens };
      place = refl;
      begins = begins_as roles n m peer t.second.sign t.third.sign x e seen;
    }
act_begins bytes roles n m peer ls part.Other t x tokens s e seen = absurd (not_seen roles n m peer x e seen)

-- ---- an act has a place

-- what is told of an act of this number
abbrev pub HasPlace : List ℕ → List (List ℕ) → Places_data → (role n : ℕ) → Mark → Role → Type 0
HasPlace bytes roles places role n m peer = (states : List Position) × (position : Position) × (slice_get places.machines role ≡ Some states) × (slice_get states n ≡ Some position) × ActBegins bytes roles n m peer position

shown_has : (bytes : List ℕ) (roles : List (List ℕ)) (places : Places_data) (k : ArePlaces bytes roles places) (role : ℕ) (machine : Machine_data) (n : ℕ) (m : Mark) (peer : Role) (arms : List Arm) → role < length roles
    → ShownIn roles machine (all_walk roles role (signs_of k.lexemes)) → slice_get machine.states n ≡ Some (state_by_mark m peer arms) → HasPlace bytes roles places role n m peer
shown_has bytes roles places k role machine n m peer arms within s e =
    let ls = k.lexemes in
    let x = s.shows n m peer arms e in
    let all : map spot_seen (all_spots roles role ls) ≡ s.shown ++ s.rest = whole_spots roles role ls ∙ s.is in
    let t = mapped_there spot_seen (all_spots roles role ls) n x.0 (ap (λ z. slice_get z n) all ∙ left_there s.shown s.rest n x.0 x.1) in
    let from : PlacedTrio → ℕ = λ t. (spot_token t).from in
    let offset : slice_get (offsets_of_role role (state_starts (placed roles (trios ls) part.Other))) n ≡ Some (from t.0)
    = ap (λ z. slice_get z n) (offsets_are role (placed roles (trios ls) part.Other)) ∙ slice_get-map from (all_spots roles role ls) n ∙ ap (option_map from) t.1 in (
      state_places bytes roles ls role,
      position_of bytes (from t.0),
      k.states role within,
      slice_get-map (position_of bytes) (offsets_of_role role (state_starts (placed roles (trios ls) part.Other))) n ∙ ap (option_map (position_of bytes)) offset,
      act_begins bytes roles n m peer ls t.0.part t.0.tokens x.0 k.tokens (whole_stands roles role ls n t.0 t.1) t.2 x.2,
    )

abbrev Quiet : List ℕ → ℕ → Type 0
Quiet bytes at = opens (next_lexeme bytes at).sign ≡ false

quiet_behind : (bytes : List ℕ) (d : Document_data) (s : SpellsDocument bytes d) → Quiet bytes s.next
quiet_behind bytes d s = elim (first_of_parts derivation_parts bytes s.next s.before (no_parts s.before.roles) _ _ s.parts.derivations_are refl) [
  | inl e ↦ ap (λ z. opens z) e
  | inr e ↦ subst (λ (z : ℕ). Quiet bytes z) e (ap (λ z. opens z) s.ends)
]

quiet_first : (bytes : List ℕ) (d : Document_data) (s : SpellsDocument bytes d) → Quiet bytes s.parts.front_is.until
quiet_first bytes d s =
    let front = s.parts.front_is in
    elim (first_of_parts machine_parts bytes front.until front.names (no_parts front.names.roles) _ _ front.machines_are refl) [
      | inl m ↦ elim m [ inl e ↦ ap (λ z. opens z) e | inr e ↦ ap (λ z. opens z) e ]
      | inr e ↦ subst (λ (z : ℕ). Quiet bytes z) e (quiet_behind bytes d s)
    ]

act_in : (bytes : List ℕ) (d : Document_data) (places : Places_data) (h : SpellsDocument bytes d) → ArePlaces bytes h.parts.front_is.names.roles places → (role : ℕ) (machine : Machine_data)
    → slice_get d.machines role ≡ Some (Some machine) → (n : ℕ) (m : Mark) (peer : Role) (arms : List Arm) → slice_get machine.states n ≡ Some (state_by_mark m peer arms)
    → HasPlace bytes h.parts.front_is.names.roles places role n m peer
act_in bytes d places h k role machine there n m peer arms e =
    let front = h.parts.front_is in
    let roles = front.names.roles in
    let p = front.protocol_is in
    let ls : List Lexeme = p.lexemes ++ p.behind ∷ p.others in
    let same : k.lexemes ≡ ls = one_list_law bytes 0 k.lexemes ls k.tokens p.tokens in
    let last = tokens_there bytes p.lexemes p.others p.behind 0 p.tokens in
    let suf : List Lexeme = p.behind ∷ p.others in
    let tokens : AreTokens bytes front.until suf = subst (λ (z : ℕ). AreTokens bytes z suf) (sym p.goes_on) last.0 in
    let calm : opens p.behind.sign ≡ false = ap (λ (z : Lexeme). opens z.sign) (last.1 ∙ ap (next_lexeme bytes) (sym p.goes_on)) ∙ quiet_first bytes d h in
    let empty : length (no_parts {A = Machine_data} roles) ≡ length roles = (none_held {A = Machine_data} (λ x. x.role) (λ x. Unit {0}) roles).one_each in
    let kept = keeps machine_parts of_machines bytes front.until front.names (no_parts roles) _ _ front.machines_are refl in
    let within : role < length roles = subst (λ (z : ℕ). role < z) (kept.size ∙ empty) (slice_get_within d.machines role (Some machine) there) in
    let signs : all_walk roles role (signs_of k.lexemes) ≡ go roles role (signs_of suf) part.Other (last_of Talks p.tree.body)
    = ap (λ z. all_walk roles role z) (ap signs_of same ∙ signs_at p.lexemes p.others p.behind ∙ ap (λ z. z ++ p.behind.sign ∷ signs_of p.others) p.spelt)
    ∙ protocol_walk roles role p.tree.opening p.tree.body p.behind.sign (signs_of p.others) calm in
    elim (parts_show bytes role machine front.until front.names (no_parts roles) _ _ front.machines_are refl empty (quiet_behind bytes d h) there) [
      | inl old ↦ absurd (none_there roles role machine old)
      | inr new ↦
          let s = new.1 suf tokens part.Other (last_of Talks p.tree.body) in
          shown_has bytes roles places k role machine n m peer arms within (record { shown = s.shown; rest = s.rest; is = signs ∙ s.is; shows = s.shows }) e
    ]

pub act_stands : (bytes : List ℕ) (d : Document_data) (places : Places_data) → SpellsDocument bytes d → ArePlaces bytes d.names.roles places → (role : ℕ) (machine : Machine_data)
    → slice_get d.machines role ≡ Some (Some machine) → (n : ℕ) (m : Mark) (peer : Role) (arms : List Arm) → slice_get machine.states n ≡ Some (state_by_mark m peer arms)
    → HasPlace bytes d.names.roles places role n m peer
act_stands bytes d places h k role machine there n m peer arms e =
    let roles = roles_stay bytes d h in
    subst (λ (z : List (List ℕ)). HasPlace bytes z places role n m peer) (sym roles)
    (act_in bytes d places h (subst (λ (z : List (List ℕ)). ArePlaces bytes z places) roles k) role machine there n m peer arms e)
