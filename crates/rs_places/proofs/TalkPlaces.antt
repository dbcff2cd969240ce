-- In a text that spells a document each talk of its protocol stands where its place is.
use Rattle.std.proofs.Common.{◌≡◌, ℕ, ◌+◌, zero, suc, List, [], ◌∷◌, ◌++◌, length, drop, map, filter, false, Option, Some, option_map, slice_get, ◌⊎◌, inl, inr, refl, sym, ap, ◌∙◌, subst, arith, codes, Result}
use Rattle.std.proofs.lemmas.List.{map-append}
use Rattle.std.proofs.lemmas.Option.{slice_get-map}
use Rattle.rs_model.specs.Data.{Names_data, Protocol_data}
use Rattle.rs_model.specs.declared.graph.Arm.{Arm}
use Rattle.rs_model.specs.declared.graph.Node.{Node}
use Rattle.rs_model.specs.declared.graph.Node.TheVariants as node
use Rattle.rs_model.specs.declared.graph.Role.{Role}
use Rattle.rs_text.specs.declared.faults.TextFault.{TextFault}
use Rattle.rs_text.specs.Lexemes.{Lexeme, is_last, signs_of}
use Rattle.rs_text.specs.Lexing.{next_lexeme}
use Rattle.rs_text.specs.Signs.{Sign, plain, arrow}
use Rattle.rs_text.specs.Tokens.{AreTokens, IsNext, gap_bytes, nothing}
use Rattle.rs_text.proofs.Gaps.{true_or_false}
use Rattle.rs_text.proofs.Nexts.{are_lexed, behind_gap, one_next, one_list_law}
use Rattle.rs_bodies.specs.declared.dialects.Dialect.TheVariants.{Talks}
use Rattle.rs_bodies.specs.Dialects.{turns}
use Rattle.rs_bodies.specs.Graph.{heads_of, has_end}
use Rattle.rs_bodies.specs.Openings.{roles_in}
use Rattle.rs_bodies.specs.Scenes.{first_scene}
use Rattle.rs_bodies.specs.Spells.{Tree, numbering}
use Rattle.rs_bodies.specs.Trees.{body_signs}
use Rattle.rs_bodies.proofs.Heads.{heads_mapped}
use Rattle.rs_global.specs.Graph.{no_names, talk_of_turn}
use Rattle.rs_global.specs.Spells.{SpellsProtocol}
use Rattle.rs_documents.specs.Data.{Document_data}
use Rattle.rs_documents.specs.Documents.{SpellsDocument}
use Rattle.rs_documents.specs.Parts.{PartKind, PartsRead, BeginsAt, GoesOn, Stops, Repeats, Fails, Adds, machine_parts, derivation_parts, no_parts}
use Rattle.rs_documents.proofs.Parts.{good, keeps}
use Rattle.rs_documents.proofs.PartKinds.{of_machines, of_derivations}
use Rattle.rs_places.specs.declared.places.Position.{Position}
use Rattle.rs_places.specs.Beginnings.{TalkBegins}
use Rattle.rs_places.specs.Data.{Places_data}
use Rattle.rs_places.specs.Places.{ArePlaces, position_of, talk_places}
use Rattle.rs_places.specs.Starts.{Trio, trios, talk_offsets}
use Rattle.rs_places.proofs.Known.{HeadWords, words_made, HasRoles, body_roles, all_at}
use Rattle.rs_places.proofs.Talks.{all_found, whole_found, whole_among, opening_found, before_end, mapped_there, talk_words, TalkWords}
use Rattle.rs_places.proofs.Trios.{seen_of, has_arrow}
use Rattle.rs_places.proofs.Turns.{found, head_seen, body_found}

-- ---- a token comes where it begins

not_none : (xs ys : List Lexeme) (l : Lexeme) → xs ++ l ∷ ys ≡ [] → ⊥
not_none [] ys l h = cc h
not_none (x ∷ xs) ys l h = cc h

-- a token of a text is the next one from some offset on
pub next_somewhere : (bytes : List ℕ) (xs ys : List Lexeme) (l : Lexeme) (at : ℕ) → AreTokens bytes at (xs ++ l ∷ ys) → (from : ℕ) × IsNext bytes from l
next_somewhere bytes [] ys l at h = (at, h.0)
next_somewhere bytes (x ∷ xs) ys l at h = elim (true_or_false (is_last x.sign)) [
  | inl e ↦ absurd (not_none xs ys l (h.1 e))
  | inr e ↦ next_somewhere bytes xs ys l x.until (h.2 e)
]

-- and so it is from its own offset on
pub next_there : (bytes : List ℕ) (at : ℕ) (l : Lexeme) → IsNext bytes at l → l ≡ next_lexeme bytes l.from
next_there bytes at l x =
    let from = x.from in
    let rest : drop (at + length (gap_bytes x.gap)) bytes ≡ x.text ++ x.behind = behind_gap bytes at (length (gap_bytes x.gap)) (gap_bytes x.gap) (x.text ++ x.behind) x.parts refl in
    one_next bytes l.from l (record {
      gap = nothing;
      text = x.text;
      behind = x.behind;
      parts = ap (λ z. drop z bytes) from ∙ rest;
      between = tt;
      token = x.token;
      from = omega arith;
      until = x.until;
    })

-- ---- what stands after the protocol

pub first_of_parts : {A : Type 0} (kind : PartKind A) (bytes : List ℕ) (at : ℕ) (names : Names_data) (parts : List (Option A)) (what : Result (PartsRead A) TextFault) (row : PartsRead A)
    → GoesOn kind bytes at names parts what → what ≡ good row → BeginsAt kind bytes at ⊎ (row.until ≡ at)
first_of_parts {A} kind bytes at names parts what row (Stops a n m e) is = inr (cc is)
first_of_parts kind bytes at names parts what row (Repeats a u n m e z) is = absurd cc
first_of_parts kind bytes at names parts what row (Fails a u n m j e z r) is = absurd cc
first_of_parts kind bytes at names parts what row (Adds a next n new m part w e z s g) is = inl e

abbrev TurnsNot : List ℕ → ℕ → Type 0
TurnsNot bytes at = turns Talks (next_lexeme bytes at).sign ≡ false

pub no_turn : (bytes : List ℕ) (d : Document_data) (s : SpellsDocument bytes d) → TurnsNot bytes s.parts.front_is.until
no_turn bytes d s =
    let front = s.parts.front_is in
    elim (first_of_parts machine_parts bytes front.until front.names (no_parts front.names.roles) _ _ front.machines_are refl) [
      | inl m ↦ elim m [ inl e ↦ ap (λ z. turns Talks z) e | inr e ↦ ap (λ z. turns Talks z) e ]
      | inr m ↦ elim (first_of_parts derivation_parts bytes s.next s.before (no_parts s.before.roles) _ _ s.parts.derivations_are refl) [
        | inl e ↦ subst (λ (z : ℕ). TurnsNot bytes z) m (ap (λ z. turns Talks z) e)
        | inr e ↦ subst (λ (z : ℕ). TurnsNot bytes z) (e ∙ m) (ap (λ z. turns Talks z) s.ends)
      ]
    ]

pub roles_stay : (bytes : List ℕ) (d : Document_data) (s : SpellsDocument bytes d) → d.names.roles ≡ s.parts.front_is.names.roles
roles_stay bytes d s =
    let front = s.parts.front_is in
    (keeps derivation_parts of_derivations bytes s.next s.before (no_parts s.before.roles) _ _ s.parts.derivations_are refl).roles
    ∙ (keeps machine_parts of_machines bytes front.until front.names (no_parts front.names.roles) _ _ front.machines_are refl).roles

-- ---- the place of a talk

pub left_there : {A : Type 0} (xs ys : List A) (n : ℕ) (x : A) → slice_get xs n ≡ Some x → slice_get (xs ++ ys) n ≡ Some x
left_there [] ys n x h = absurd (cc h)
left_there (z ∷ xs) ys zero x h = h
left_there (z ∷ xs) ys (suc n) x h = left_there xs ys n x h

-- the tokens at a talk of the tree
pub record TalkFound (ls : List Lexeme) (roles : List (List ℕ)) (n : ℕ) (s r : Role) : Type 0 where
  pub tokens : Trio
  pub there : slice_get (filter has_arrow (trios ls)) n ≡ Some tokens
  pub first : List ℕ
  pub receiver : List ℕ
  pub signs : seen_of Talks tokens ≡ plain first ∷ arrow ∷ plain receiver ∷ []
  pub words : TalkWords roles s r first receiver

pub signs_at : (xs ys : List Lexeme) (l : Lexeme) → signs_of (xs ++ l ∷ ys) ≡ signs_of xs ++ l.sign ∷ signs_of ys
signs_at xs ys l = map-append (λ z. z.sign) xs (l ∷ ys)

found_in : (bytes : List ℕ) (names : Names_data) (protocol : Protocol_data) (until : ℕ) (p : SpellsProtocol bytes 0 names protocol until) → turns Talks p.behind.sign ≡ false → (n : ℕ) (s r : Role) (arms : List Arm)
    → slice_get protocol.nodes n ≡ Some (node.Talk s r arms) → TalkFound (p.lexemes ++ p.behind ∷ p.others) (roles_in Talks no_names p.tree.opening) n s r
found_in bytes names protocol until p quiet n s r arms e =
    let tree : Tree Talks = p.tree in
    let num = numbering Talks no_names tree in
    let b = tree.body in
    let ls : List Lexeme = p.lexemes ++ p.behind ∷ p.others in
    let raw : List (HeadWords Talks) = heads_of Talks (words_made Talks) num b [] 0 in
    let talk : HeadWords Talks → Node = λ h. talk_of_turn num h.first h.turn h.arms in
    let look : HeadWords Talks → List Sign = λ h. head_seen Talks h.first h.turn h.arms in
    let nodes = heads_of Talks (talk_of_turn num) num b [] 0 in
    let talks : slice_get nodes n ≡ Some (node.Talk s r arms) = before_end nodes (has_end Talks b) n s r arms (ap (λ (z : Protocol_data). slice_get z.nodes n) (sym p.meaning_is) ∙ e) in
    let m = mapped_there talk raw n (node.Talk s r arms) (ap (λ z. slice_get z n) (heads_mapped Talks talk (words_made Talks) (talk_of_turn num) (λ x t a. refl) num b [] 0) ∙ talks) in
    let known = all_at (HasRoles Talks (roles_in Talks no_names tree.opening)) raw n m.0 (body_roles Talks b (first_scene (roles_in Talks no_names tree.opening) no_names.labels) num [] 0 p.fits.body) m.1 in
    let w = talk_words num m.0.first m.0.turn m.0.arms arms s r m.2 known in
    let x : List Sign = plain m.0.first ∷ arrow ∷ plain w.0 ∷ [] in
    let heads : slice_get (heads_of Talks (head_seen Talks) num b [] 0) n ≡ Some x
    = ap (λ z. slice_get z n) (sym (heads_mapped Talks look (words_made Talks) (head_seen Talks) (λ y t a. refl) num b [] 0)) ∙ slice_get-map look raw n ∙ ap (option_map look) m.1 ∙ ap (λ z. Some z) w.1 in
    let behind : List Sign = signs_of p.others in
    let all : map (seen_of Talks) (filter has_arrow (trios ls)) ≡ heads_of Talks (head_seen Talks) num b [] 0 ++ found Talks p.behind.sign behind
    = whole_found bytes 0 ls (are_lexed bytes ls 0 p.tokens)
    ∙ ap all_found (signs_at p.lexemes p.others p.behind ∙ ap (λ z. z ++ p.behind.sign ∷ behind) p.spelt)
    ∙ opening_found tree.opening (body_signs Talks b) (p.behind.sign ∷ behind)
    ∙ body_found Talks b (plain (codes "protocol")) p.behind.sign behind num [] 0 quiet in
    let t = mapped_there (seen_of Talks) (filter has_arrow (trios ls)) n x (ap (λ z. slice_get z n) all ∙ left_there (heads_of Talks (head_seen Talks) num b [] 0) (found Talks p.behind.sign behind) n x heads) in
    record { tokens = t.0; there = t.1; first = m.0.first; receiver = w.0; signs = t.2; words = w.2 }

first_seen : (a b c d e f : Sign) → a ∷ b ∷ c ∷ [] ≡ d ∷ e ∷ f ∷ [] → (a ≡ d) × (b ≡ e) × (c ≡ f)
first_seen a b c d e f h = (cc h, cc h, cc h)

begins_there : (bytes : List ℕ) (roles : List (List ℕ)) (places : Places_data) (ls : List Lexeme) (n : ℕ) (s r : Role) → AreTokens bytes 0 ls → places.talks ≡ talk_places bytes ls → TalkFound ls roles n s r
    → (position : Position) × (slice_get places.talks n ≡ Some position) × TalkBegins bytes roles s r position
begins_there bytes roles places ls n s r tokens talks f =
    let t = f.tokens in
    let among = whole_among ls n t f.there in
    let seen = first_seen t.first.sign t.second.sign t.third.sign (plain f.first) arrow (plain f.receiver) f.signs in (
      position_of bytes t.first.from,
      ap (λ z. slice_get z n) talks ∙ slice_get-map (position_of bytes) (talk_offsets (trios ls)) n ∙ ap (option_map (position_of bytes)) (slice_get-map (λ z. z.first.from) (filter has_arrow (trios ls)) n ∙ ap (option_map (λ z. z.first.from)) f.there),
      record {
        tokens = t;
        stand = record { before = among.before; others = among.others; tokens = subst (λ (z : List Lexeme). AreTokens bytes 0 z) among.parts tokens };
        place = refl;
        sender_is = (f.first, seen.0, f.words.sender_is);
        turn = seen.1;
        receiver_is = (f.receiver, seen.2, f.words.receiver_is);
      },
    )

pub talk_stands : (bytes : List ℕ) (d : Document_data) (places : Places_data) → SpellsDocument bytes d → ArePlaces bytes d.names.roles places → (n : ℕ) (s r : Role) (arms : List Arm)
    → slice_get d.protocol.nodes n ≡ Some (node.Talk s r arms) → (position : Position) × (slice_get places.talks n ≡ Some position) × TalkBegins bytes d.names.roles s r position
talk_stands bytes d places h k n s r arms e =
    let front = h.parts.front_is in
    let p = front.protocol_is in
    let ls : List Lexeme = p.lexemes ++ p.behind ∷ p.others in
    let same : k.lexemes ≡ ls = one_list_law bytes 0 k.lexemes ls k.tokens p.tokens in
    let next = next_somewhere bytes p.lexemes p.others p.behind 0 p.tokens in
    let behind : next_lexeme bytes front.until ≡ p.behind = ap (next_lexeme bytes) p.goes_on ∙ sym (next_there bytes next.0 p.behind next.1) in
    let quiet : turns Talks p.behind.sign ≡ false = ap (λ (z : Lexeme). turns Talks z.sign) (sym behind) ∙ no_turn bytes d h in
    let roles : roles_in Talks no_names p.tree.opening ≡ d.names.roles = ap (λ (z : Names_data). z.roles) (sym p.names_are) ∙ sym (roles_stay bytes d h) in
    subst (λ (z : List (List ℕ)). (position : Position) × (slice_get places.talks n ≡ Some position) × TalkBegins bytes z s r position) roles
    (begins_there bytes (roles_in Talks no_names p.tree.opening) places ls n s r p.tokens (k.talks ∙ ap (talk_places bytes) same) (found_in bytes front.names d.protocol front.until p quiet n s r arms e))
