-- In a text that spells a document each place is that of a talk.
use Rattle.std.proofs.Common.{◌≡◌, inl, inr, ℕ, List, [], ◌∷◌, ◌++◌, map, filter, false, Option, Some, Result, option_map, slice_get, refl, sym, ap, ◌∙◌, subst, codes}
use Rattle.std.proofs.lemmas.List.{append-nil}
use Rattle.std.proofs.lemmas.Option.{slice_get-map}
use Rattle.rs_derive.specs.Data.{Derivation_data}
use Rattle.rs_model.specs.Data.{Machine_data, Names_data}
use Rattle.rs_model.specs.declared.graph.Arm.{Arm}
use Rattle.rs_model.specs.declared.graph.Node.{Node}
use Rattle.rs_model.specs.declared.graph.Node.TheVariants as node
use Rattle.rs_model.specs.declared.graph.Role.{Role}
use Rattle.rs_text.specs.declared.faults.TextFault.{TextFault}
use Rattle.rs_text.specs.Lexemes.{Lexeme, is_last, signs_of}
use Rattle.rs_text.specs.Lexing.{next_lexeme}
use Rattle.rs_text.specs.Signs.{Sign, plain, finish}
use Rattle.rs_text.specs.Tokens.{AreTokens}
use Rattle.rs_text.proofs.Nexts.{are_lexed, one_list_law, one_next}
use Rattle.rs_bodies.specs.declared.dialects.Dialect.TheVariants.{Talks}
use Rattle.rs_bodies.specs.Dialects.{BehindRole, sends_to, turns}
use Rattle.rs_bodies.specs.Graph.{Numbering, has_end, heads_of}
use Rattle.rs_bodies.specs.Spells.{numbering}
use Rattle.rs_bodies.specs.Trees.{body_signs}
use Rattle.rs_bodies.proofs.Heads.{heads_mapped}
use Rattle.rs_derivations.specs.Spells.{SpellsDerivation}
use Rattle.rs_global.specs.Graph.{finish_of, no_names, talk_of_turn}
use Rattle.rs_documents.specs.Data.{Document_data}
use Rattle.rs_documents.specs.Documents.{SpellsDocument}
use Rattle.rs_documents.specs.Parts.{PartKind, PartsRead, GoesOn, Stops, Repeats, Fails, Adds, NextTokenIs, derivation_parts, machine_parts, no_parts, parts_with}
use Rattle.rs_documents.specs.Spells.{SpellsOwn}
use Rattle.rs_documents.proofs.Parts.{good}
use Rattle.rs_documents.proofs.PartKinds.{machine_line}
use Rattle.rs_places.specs.declared.places.Position.{Position}
use Rattle.rs_places.specs.Data.{Places_data}
use Rattle.rs_places.specs.Places.{ArePlaces, position_of, talk_places}
use Rattle.rs_places.specs.Starts.{Trio, talk_offsets, trios}
use Rattle.rs_places.proofs.Known.{HeadWords, words_made}
use Rattle.rs_places.proofs.NoArrows.{HaveNoArrow, body_none, derivation_none, join, later_none, none_found, table_none}
use Rattle.rs_places.proofs.PartWalks.{tokens_there}
use Rattle.rs_places.proofs.TalkPlaces.{left_there, no_turn, signs_at}
use Rattle.rs_places.proofs.Talks.{all_found, mapped_there, opening_found, whole_found}
use Rattle.rs_places.proofs.Trios.{has_arrow, seen_of}
use Rattle.rs_places.proofs.Turns.{body_found, head_seen, heads}

-- ---- no arrow stands after the protocol

-- a part's tokens, none of which is an arrow
record PlainPart (bytes : List ℕ) (at until : ℕ) : Type 0 where
  lexemes : List Lexeme
  behind : Lexeme
  others : List Lexeme
  tokens : AreTokens bytes at (lexemes ++ behind ∷ others)
  none : HaveNoArrow (signs_of lexemes)
  goes_on : until ≡ behind.from

plain_machine : (bytes : List ℕ) (at : ℕ) (old new : Names_data) (m : Machine_data) (until : ℕ) → SpellsOwn bytes at old new m until → PlainPart bytes at until
plain_machine bytes at old new m until (inl s) =
    let l = machine_line bytes at old new m until s in
    record {
      lexemes = s.lexemes;
      behind = s.behind;
      others = s.others;
      tokens = s.tokens;
      none = subst HaveNoArrow (sym (s.spelt ∙ l.signs)) (body_none s.tree.body);
      goes_on = s.goes_on;
    }
plain_machine bytes at old new m until (inr s) = record {
  lexemes = s.lexemes;
  behind = s.behind;
  others = s.others;
  tokens = s.tokens;
  none = subst HaveNoArrow (sym s.spelt) (table_none s.tree);
  goes_on = s.goes_on;
}

plain_derivation : (bytes : List ℕ) (at : ℕ) (old new : Names_data) (d : Derivation_data) (until : ℕ) → SpellsDerivation bytes at old new d until → PlainPart bytes at until
plain_derivation bytes at old new d until s = record {
  lexemes = s.lexemes;
  behind = s.behind;
  others = s.others;
  tokens = s.tokens;
  none = subst HaveNoArrow (sym s.spelt) (derivation_none s.tree);
  goes_on = s.goes_on;
}

-- no arrow stands from an offset on
abbrev NoneFrom : List ℕ → ℕ → Type 0
NoneFrom bytes at = (suf : List Lexeme) → AreTokens bytes at suf → HaveNoArrow (signs_of suf)

none_from : {A : Type 0} (kind : PartKind A) → ((bytes : List ℕ) (at : ℕ) (old new : Names_data) (part : A) (until : ℕ) → kind.Spells bytes at old new part until → PlainPart bytes at until)
    → (bytes : List ℕ) (at : ℕ) (names : Names_data) (parts : List (Option A)) (what : Result (PartsRead A) TextFault) (row : PartsRead A) → GoesOn kind bytes at names parts what → what ≡ good row
    → NoneFrom bytes row.until → NoneFrom bytes at
none_from {A} kind plainly bytes at names parts what row (Stops a n m e) is later =
    let mine : PartsRead A = record { names = names; parts = parts; until = at } in
    let same : mine ≡ row = cc is in
    subst (λ (z : PartsRead A). NoneFrom bytes z.until) (sym same) later
none_from kind plainly bytes at names parts what row (Repeats a u n m e z) is later = absurd (cc is)
none_from kind plainly bytes at names parts what row (Fails a u n m j e z r) is later = absurd (cc is)
none_from kind plainly bytes at names parts what row (Adds a next n new m part w e z s g) is later = λ suf t.
    let q = plainly bytes at names new part next s in
    let same : suf ≡ q.lexemes ++ q.behind ∷ q.others = one_list_law bytes at suf (q.lexemes ++ q.behind ∷ q.others) t q.tokens in
    let there = tokens_there bytes q.lexemes q.others q.behind at q.tokens in
    let tokens : AreTokens bytes next (q.behind ∷ q.others) = subst (λ (z : ℕ). AreTokens bytes z (q.behind ∷ q.others)) (sym q.goes_on) there.0 in
    let rest = none_from kind plainly bytes next new (parts_with kind parts part) what row g is later (q.behind ∷ q.others) tokens in
    subst HaveNoArrow (sym (ap signs_of same ∙ signs_at q.lexemes q.others q.behind)) (join (signs_of q.lexemes) (signs_of (q.behind ∷ q.others)) q.none rest)

none_at_end : (bytes : List ℕ) (at : ℕ) → NextTokenIs bytes at finish → NoneFrom bytes at
none_at_end bytes at h [] t = absurd t
none_at_end bytes at h (l ∷ ls) t =
    let last : l.sign ≡ finish = ap (λ (z : Lexeme). z.sign) (one_next bytes at l t.0) ∙ h in
    let empty : ls ≡ [] = t.1 (ap is_last last) in
    subst (λ (z : List Lexeme). HaveNoArrow (l.sign ∷ signs_of z)) (sym empty) (subst (λ (z : Sign). HaveNoArrow (z ∷ [])) (sym last) refl)

none_behind : (bytes : List ℕ) (d : Document_data) (s : SpellsDocument bytes d) → NoneFrom bytes s.parts.front_is.until
none_behind bytes d s =
    let front = s.parts.front_is in
    none_from machine_parts plain_machine bytes front.until front.names (no_parts front.names.roles) _ _ front.machines_are refl
    (none_from derivation_parts plain_derivation bytes s.next s.before (no_parts s.before.roles) _ _ s.parts.derivations_are refl (none_at_end bytes s.end s.ends))

-- ---- a place is that of a talk

a_talk : (n : Numbering) (first : List ℕ) (turn : BehindRole Talks) (arms : List Arm) → (s : Role) × (r : Role) × (talk_of_turn n first turn arms ≡ node.Talk s r arms)
a_talk n first (sends_to q) arms = (_, _, refl)

pub place_of_talk : (bytes : List ℕ) (d : Document_data) (places : Places_data) → SpellsDocument bytes d → ArePlaces bytes d.names.roles places → (n : ℕ) (position : Position)
    → slice_get places.talks n ≡ Some position → (s : Role) × (r : Role) × (arms : List Arm) × (slice_get d.protocol.nodes n ≡ Some (node.Talk s r arms))
place_of_talk bytes d places h k n position e =
    let p = h.parts.front_is.protocol_is in
    let num = numbering Talks no_names p.tree in
    let b = p.tree.body in
    let ls : List Lexeme = p.lexemes ++ p.behind ∷ p.others in
    let same : k.lexemes ≡ ls = one_list_law bytes 0 k.lexemes ls k.tokens p.tokens in
    let last = tokens_there bytes p.lexemes p.others p.behind 0 p.tokens in
    let suf : List Lexeme = p.behind ∷ p.others in
    let tokens : AreTokens bytes h.parts.front_is.until suf = subst (λ (z : ℕ). AreTokens bytes z suf) (sym p.goes_on) last.0 in
    let none = none_behind bytes d h suf tokens in
    let quiet : turns Talks p.behind.sign ≡ false = ap (λ (z : Lexeme). turns Talks z.sign) (last.1 ∙ ap (next_lexeme bytes) (sym p.goes_on)) ∙ no_turn bytes d h in
    let raw : List (HeadWords Talks) = heads_of Talks (words_made Talks) num b [] 0 in
    let look : HeadWords Talks → List Sign = λ h. head_seen Talks h.first h.turn h.arms in
    let talk : HeadWords Talks → Node = λ h. talk_of_turn num h.first h.turn h.arms in
    let ts = filter has_arrow (trios ls) in
    let all : map (seen_of Talks) ts ≡ heads Talks num b [] 0
    = whole_found bytes 0 ls (are_lexed bytes ls 0 p.tokens)
    ∙ ap all_found (signs_at p.lexemes p.others p.behind ∙ ap (λ z. z ++ p.behind.sign ∷ signs_of p.others) p.spelt)
    ∙ opening_found p.tree.opening (body_signs Talks b) (p.behind.sign ∷ signs_of p.others)
    ∙ body_found Talks b (plain (codes "protocol")) p.behind.sign (signs_of p.others) num [] 0 quiet
    ∙ ap (λ z. heads Talks num b [] 0 ++ z) (none_found (signs_of p.others) p.behind.sign (later_none p.behind.sign (signs_of p.others) none))
    ∙ append-nil (heads Talks num b [] 0) in
    let offset = mapped_there (position_of bytes) (talk_offsets (trios ls)) n position (ap (λ z. slice_get z n) (sym (k.talks ∙ ap (talk_places bytes) same)) ∙ e) in
    let t = mapped_there (λ (z : Trio). z.first.from) ts n offset.0 offset.1 in
    let head : slice_get (map look raw) n ≡ Some (seen_of Talks t.0)
    = ap (λ z. slice_get z n) (heads_mapped Talks look (words_made Talks) (head_seen Talks) (λ y u a. refl) num b [] 0 ∙ sym all) ∙ slice_get-map (seen_of Talks) ts n ∙ ap (option_map (seen_of Talks)) t.1 in
    let w = mapped_there look raw n (seen_of Talks t.0) head in
    let mine = a_talk num w.0.first w.0.turn w.0.arms in
    let there : slice_get (heads_of Talks (talk_of_turn num) num b [] 0) n ≡ Some (node.Talk mine.0 mine.1 w.0.arms)
    = ap (λ z. slice_get z n) (sym (heads_mapped Talks talk (words_made Talks) (talk_of_turn num) (λ y u a. refl) num b [] 0)) ∙ slice_get-map talk raw n ∙ ap (option_map talk) w.1 ∙ ap (λ z. Some z) mine.2 in (
      mine.0,
      mine.1,
      w.0.arms,
      ap (λ z. slice_get z.nodes n) p.meaning_is ∙ left_there (heads_of Talks (talk_of_turn num) num b [] 0) (finish_of (has_end Talks b)) n (node.Talk mine.0 mine.1 w.0.arms) there,
    )
