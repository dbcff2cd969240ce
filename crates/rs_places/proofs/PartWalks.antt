-- The machines of a document, part by part: what is seen of a role's states are those of its own machine.
use Rattle.std.proofs.Common.{◌≡◌, ◌≢◌, ◌⊎◌, inl, inr, ℕ, zero, suc, ◌<◌, ◌==◌, ◌&&◌, List, [], ◌∷◌, ◌++◌, length, map, Bool, true, false, Option, Some, Result, slice_get, slice_set, refl, sym, ap, ◌∙◌, subst, arith, codes}
use Rattle.std.proofs.lemmas.Bool.{eq-eqb}
use Rattle.std.proofs.lemmas.Bool.Decides.{eqb_tells}
use Rattle.std.specs.List.{list_all}
use Rattle.rs_model.specs.Data.{Machine_data, Names_data}
use Rattle.rs_model.specs.declared.graph.Role.{Role}
use Rattle.rs_text.specs.declared.faults.TextFault.{TextFault}
use Rattle.rs_text.specs.Lexemes.{Lexeme, is_last, signs_of}
use Rattle.rs_text.specs.Lexing.{next_lexeme}
use Rattle.rs_text.specs.Names.{is_among, place_of, number_or}
use Rattle.rs_text.specs.Signs.{Sign, plain, colon, open_brace, close_brace}
use Rattle.rs_text.specs.Tokens.{AreTokens, IsNext}
use Rattle.rs_text.proofs.Gaps.{true_or_false}
use Rattle.rs_text.proofs.Naming.{placed_by}
use Rattle.rs_text.proofs.Nexts.{next_is_next, one_list_law}
use Rattle.rs_bodies.specs.declared.dialects.Dialect.TheVariants.{Acts}
use Rattle.rs_bodies.specs.Graph.{Numbering, has_end}
use Rattle.rs_bodies.specs.Scenes.{first_scene}
use Rattle.rs_bodies.specs.Spells.{Tree, numbering}
use Rattle.rs_bodies.specs.Trees.{body_signs}
use Rattle.rs_machines.specs.Spells.{SpellsMachine}
use Rattle.rs_tables.specs.Spells.{SpellsTable}
use Rattle.rs_tables.specs.Machines.{peers_of_rows, state_of_row}
use Rattle.rs_tables.specs.Trees.{rows_signs}
use Rattle.rs_documents.specs.Parts.{PartsRead, BeginsAt, GoesOn, Stops, Repeats, Fails, Adds, IsTwice, machine_parts, parts_with}
use Rattle.rs_documents.specs.Spells.{SpellsOwn}
use Rattle.rs_documents.proofs.Parts.{good, set_size, RoleStands}
use Rattle.rs_documents.proofs.PartKinds.{of_machines, machine_line, machine_role}
use Rattle.rs_places.specs.declared.tokens.Part.{Part}
use Rattle.rs_places.specs.declared.tokens.Part.TheVariants as part
use Rattle.rs_places.proofs.BodyWalks.{last_of, only_if}
use Rattle.rs_places.proofs.RowWalks.{machine_walk, table_walk, rows_seen}
use Rattle.rs_places.proofs.Shows.{Shows, body_shows, table_shows}
use Rattle.rs_places.proofs.TalkPlaces.{first_of_parts, next_there, signs_at}
use Rattle.rs_places.proofs.Turns.{heads}
use Rattle.rs_places.proofs.Walks.{opens, walk}

-- what is seen from the first of these signs on, where it stands in this part after this sign
abbrev pub go : List (List ℕ) → ℕ → List Sign → Part → Sign → List (List Sign)
go roles k [] p a = []
go roles k (s ∷ ss) p a = walk roles k ss p a s

-- ---- the tokens after a part

not_none : (xs ys : List Lexeme) (l : Lexeme) → xs ++ l ∷ ys ≡ [] → ⊥
not_none [] ys l h = cc h
not_none (x ∷ xs) ys l h = cc h

tokens_somewhere : (bytes : List ℕ) (xs ys : List Lexeme) (l : Lexeme) (at : ℕ) → AreTokens bytes at (xs ++ l ∷ ys) → (from : ℕ) × AreTokens bytes from (l ∷ ys)
tokens_somewhere bytes [] ys l at h = (at, h)
tokens_somewhere bytes (x ∷ xs) ys l at h = elim (true_or_false (is_last x.sign)) [
  | inl e ↦ absurd (not_none xs ys l (h.1 e))
  | inr e ↦ tokens_somewhere bytes xs ys l x.until (h.2 e)
]

-- tokens are the tokens from their first one on
pub tokens_there : (bytes : List ℕ) (xs ys : List Lexeme) (l : Lexeme) (at : ℕ) → AreTokens bytes at (xs ++ l ∷ ys) → AreTokens bytes l.from (l ∷ ys) × (l ≡ next_lexeme bytes l.from)
tokens_there bytes xs ys l at h =
    let t = tokens_somewhere bytes xs ys l at h in
    let e : l ≡ next_lexeme bytes l.from = next_there bytes t.0 l t.1.0 in
    let next : IsNext bytes l.from l = subst (λ (z : Lexeme). IsNext bytes l.from z) (sym e) (next_is_next bytes l.from) in (
      (next, t.1.1, t.1.2),
      e,
    )

-- ---- one part

-- what is seen of a part, and of what stands after it
pub record PartGoes (bytes : List ℕ) (roles : List (List ℕ)) (k : ℕ) (m : Machine_data) (until : ℕ) (w : List (List Sign)) : Type 0 where
  pub seen : List (List Sign)
  pub others : List Lexeme
  pub tokens : AreTokens bytes until others
  pub part : Part
  pub before : Sign
  pub is : w ≡ only_if (m.role.0 == k) seen ++ go roles k (signs_of others) part before
  pub shows : Shows roles m.states seen

role_known : (names : Names_data) (role : List ℕ) → is_among role names.roles ≡ true → (r : ℕ) × (place_of role names.roles ≡ Some r)
role_known names role h = placed_by (place_of role names.roles) role names.roles refl h

body_goes : (bytes : List ℕ) (k at : ℕ) (old new : Names_data) (m : Machine_data) (until : ℕ) → SpellsMachine bytes at old new m until → opens (next_lexeme bytes until).sign ≡ false
    → (suf : List Lexeme) → AreTokens bytes at suf → (p : Part) (a : Sign) → PartGoes bytes old.roles k m until (go old.roles k (signs_of suf) p a)
body_goes bytes k at old new m until s o suf t p a =
    let tree : Tree Acts = s.tree in
    let num : Numbering = numbering Acts old tree in
    let l = machine_line bytes at old new m until s in
    let r = role_known old l.role l.known in
    let same : suf ≡ s.lexemes ++ s.behind ∷ s.others = one_list_law bytes at suf (s.lexemes ++ s.behind ∷ s.others) t s.tokens in
    let there = tokens_there bytes s.lexemes s.others s.behind at s.tokens in
    let quiet : opens s.behind.sign ≡ false = ap (λ (z : Lexeme). opens z.sign) (there.1 ∙ ap (next_lexeme bytes) (sym s.goes_on)) ∙ o in
    let role : r.0 ≡ m.role.0 = sym (ap (λ (z : Machine_data). z.role.0) s.meaning_is ∙ l.role_is ∙ ap number_or r.1) in
    let signs : signs_of suf ≡ plain (codes "machine") ∷ plain l.role ∷ colon ∷ (body_signs Acts tree.body ++ s.behind.sign ∷ signs_of s.others)
    = ap signs_of same ∙ signs_at s.lexemes s.others s.behind ∙ ap (λ z. z ++ s.behind.sign ∷ signs_of s.others) (s.spelt ∙ l.signs) in
    record {
      seen = heads Acts num tree.body [] 0;
      others = s.behind ∷ s.others;
      tokens = subst (λ (z : ℕ). AreTokens bytes z (s.behind ∷ s.others)) (sym s.goes_on) there.0;
      part = part.Body r.0;
      before = last_of Acts tree.body;
      is = ap (λ z. go old.roles k z p a) signs
          ∙ machine_walk old.roles k r.0 p l.role tree.body a s.behind.sign (signs_of s.others) num r.1 quiet
          ∙ ap (λ z. only_if (z == k) (heads Acts num tree.body [] 0) ++ walk old.roles k (signs_of s.others) (part.Body r.0) (last_of Acts tree.body) s.behind.sign) role;
      shows = subst (λ (z : Machine_data). Shows old.roles z.states (heads Acts num tree.body [] 0)) (sym s.meaning_is)
          (body_shows num tree.body (first_scene old.roles old.labels) (has_end Acts tree.body) refl s.fits.body);
    }

first_known : (a b : Bool) → (a && b) ≡ true → (a ≡ true) × (b ≡ true)
first_known true b h = (refl, h)
first_known false b h = absurd (cc h)

table_goes : (bytes : List ℕ) (k at : ℕ) (old new : Names_data) (m : Machine_data) (until : ℕ) → SpellsTable bytes at old new m until → opens (next_lexeme bytes until).sign ≡ false
    → (suf : List Lexeme) → AreTokens bytes at suf → (p : Part) (a : Sign) → PartGoes bytes old.roles k m until (go old.roles k (signs_of suf) p a)
table_goes bytes k at old new m until s o suf t p a =
    let tree = s.tree in
    let known = first_known (is_among tree.role old.roles) (list_all (λ x. is_among x old.roles) (peers_of_rows tree.rows)) s.fits.roles in
    let r = role_known old tree.role known.0 in
    let roles : new.roles ≡ old.roles = ap (λ (z : Names_data). z.roles) s.names_are in
    let same : suf ≡ s.lexemes ++ s.behind ∷ s.others = one_list_law bytes at suf (s.lexemes ++ s.behind ∷ s.others) t s.tokens in
    let there = tokens_there bytes s.lexemes s.others s.behind at s.tokens in
    let quiet : opens s.behind.sign ≡ false = ap (λ (z : Lexeme). opens z.sign) (there.1 ∙ ap (next_lexeme bytes) (sym s.goes_on)) ∙ o in
    let role : r.0 ≡ m.role.0 = sym (ap (λ (z : Machine_data). z.role.0) s.machine_is ∙ ap (λ z. number_or (place_of tree.role z)) roles ∙ ap number_or r.1) in
    let signs : signs_of suf ≡ plain (codes "table") ∷ plain tree.role ∷ open_brace ∷ ((rows_signs 0 tree.rows ++ close_brace ∷ []) ++ s.behind.sign ∷ signs_of s.others)
    = ap signs_of same ∙ signs_at s.lexemes s.others s.behind ∙ ap (λ z. z ++ s.behind.sign ∷ signs_of s.others) s.spelt in
    record {
      seen = rows_seen 0 tree.rows;
      others = s.behind ∷ s.others;
      tokens = subst (λ (z : ℕ). AreTokens bytes z (s.behind ∷ s.others)) (sym s.goes_on) there.0;
      part = part.Table r.0;
      before = close_brace;
      is = ap (λ z. go old.roles k z p a) signs
          ∙ table_walk old.roles k r.0 p tree.role tree.rows a s.behind.sign (signs_of s.others) r.1 quiet
          ∙ ap (λ z. only_if (z == k) (rows_seen 0 tree.rows) ++ walk old.roles k (signs_of s.others) (part.Table r.0) close_brace s.behind.sign) role;
      shows = subst (λ (z : Machine_data). Shows old.roles z.states (rows_seen 0 tree.rows)) (sym s.machine_is)
          (subst (λ (z : List (List ℕ)). Shows z (map (state_of_row new) tree.rows) (rows_seen 0 tree.rows)) roles
          (table_shows new tree.rows (subst (λ (z : List (List ℕ)). list_all (λ x. is_among x z) (peers_of_rows tree.rows) ≡ true) (sym roles) known.1)));
    }

own_goes : (bytes : List ℕ) (k at : ℕ) (old new : Names_data) (m : Machine_data) (until : ℕ) → SpellsOwn bytes at old new m until → opens (next_lexeme bytes until).sign ≡ false
    → (suf : List Lexeme) → AreTokens bytes at suf → (p : Part) (a : Sign) → PartGoes bytes old.roles k m until (go old.roles k (signs_of suf) p a)
own_goes bytes k at old new m until (inl s) = body_goes bytes k at old new m until s
own_goes bytes k at old new m until (inr s) = table_goes bytes k at old new m until s

-- ---- all parts

set_here : {A : Type 0} (xs : List A) (k : ℕ) (x : A) → k < length xs → slice_get (slice_set xs k x) k ≡ Some x
set_here [] k x h = absurd (omega arith)
set_here (y ∷ xs) zero x h = refl
set_here (y ∷ xs) (suc k) x h = set_here xs k x (omega arith)

set_other : {A : Type 0} (xs : List A) (r k : ℕ) (x : A) → k ≢ r → slice_get (slice_set xs r x) k ≡ slice_get xs k
set_other [] r k x h = refl
set_other (y ∷ xs) zero zero x h = absurd (h refl)
set_other (y ∷ xs) zero (suc k) x h = refl
set_other (y ∷ xs) (suc r) zero x h = refl
set_other (y ∷ xs) (suc r) (suc k) x h = set_other xs r k x (λ e. h (ap (λ z. suc z) e))

set_cases : {A : Type 0} (xs : List (Option A)) (r k : ℕ) (x y : A) → slice_get (slice_set xs r (Some x)) k ≡ Some (Some y) → ((k ≡ r) × (y ≡ x)) ⊎ (slice_get xs k ≡ Some (Some y))
set_cases [] r k x y h = inr h
set_cases (z ∷ xs) zero zero x y h = inl (refl, cc h)
set_cases (z ∷ xs) zero (suc k) x y h = inr h
set_cases (z ∷ xs) (suc r) zero x y h = inr h
set_cases (z ∷ xs) (suc r) (suc k) x y h = elim (set_cases xs r k x y h) [
  | inl e ↦ inl (ap (λ z. suc z) e.0, e.1)
  | inr e ↦ inr e
]

-- the role has no machine yet
abbrev HasNone : List (Option Machine_data) → ℕ → Type 0
HasNone parts k = (x : Machine_data) → slice_get parts k ≡ Some (Some x) → ⊥

-- what is seen begins with what is seen of the machine
pub record ShownIn (roles : List (List ℕ)) (m : Machine_data) (w : List (List Sign)) : Type 0 where
  pub shown : List (List Sign)
  pub rest : List (List Sign)
  pub is : w ≡ shown ++ rest
  pub shows : Shows roles m.states shown

-- so it is of the tokens from an offset on
abbrev pub AreShown : List ℕ → List (List ℕ) → (k at : ℕ) → Machine_data → Type 0
AreShown bytes roles k at m = (suf : List Lexeme) → AreTokens bytes at suf → (p : Part) (a : Sign) → ShownIn roles m (go roles k (signs_of suf) p a)

begins_quiet : (bytes : List ℕ) (at until : ℕ) → BeginsAt machine_parts bytes at ⊎ (until ≡ at) → opens (next_lexeme bytes until).sign ≡ false → opens (next_lexeme bytes at).sign ≡ false
begins_quiet bytes at until (inl m) h = elim m [ inl e ↦ ap (λ z. opens z) e | inr e ↦ ap (λ z. opens z) e ]
begins_quiet bytes at until (inr e) h = subst (λ (z : ℕ). opens (next_lexeme bytes z).sign ≡ false) e h

twice_there : (bytes : List ℕ) (at : ℕ) (names : Names_data) (parts : List (Option Machine_data)) (role : Role) (k : ℕ) (x : Machine_data) → RoleStands bytes at names role → role.0 ≡ k
    → slice_get parts k ≡ Some (Some x) → (second : ℕ) × IsTwice bytes names parts at second
twice_there bytes at names parts role k x rs e h = (
  (next_lexeme bytes (next_lexeme bytes at).until).from,
  record { name = rs.name; word = rs.word; place = rs.place; role = rs.known; part = x; has = ap (λ z. slice_get parts z) (sym rs.place_is ∙ e) ∙ h; stands = refl },
)

pub parts_show : (bytes : List ℕ) (k : ℕ) (m : Machine_data) (at : ℕ) (names : Names_data) (parts : List (Option Machine_data)) (what : Result (PartsRead Machine_data) TextFault) (row : PartsRead Machine_data)
    → GoesOn machine_parts bytes at names parts what → what ≡ good row → length parts ≡ length names.roles → opens (next_lexeme bytes row.until).sign ≡ false
    → slice_get row.parts k ≡ Some (Some m) → (slice_get parts k ≡ Some (Some m)) ⊎ (HasNone parts k × AreShown bytes names.roles k at m)
parts_show bytes k m at names parts what row (Stops a n ps e) is size quiet there =
    let mine : PartsRead Machine_data = record { names = names; parts = parts; until = at } in
    let same : mine ≡ row = cc is in
    inl (ap (λ (z : PartsRead Machine_data). slice_get z.parts k) same ∙ there)
parts_show bytes k m at names parts what row (Repeats a u n ps e z) is size quiet there = absurd (cc is)
parts_show bytes k m at names parts what row (Fails a u n ps j e z r) is size quiet there = absurd (cc is)
parts_show bytes k m at names parts what row (Adds a next n new ps part w e z s g) is size quiet there =
    let r : ℕ = part.role.0 in
    let roles : new.roles ≡ names.roles = of_machines.roles bytes at names new part next s in
    let rs = machine_role bytes at names new part next s in
    let calm = begins_quiet bytes next row.until (first_of_parts machine_parts bytes next new (parts_with machine_parts parts part) what row g is) quiet in
    elim (parts_show bytes k m next new (parts_with machine_parts parts part) what row g is (set_size parts r (Some part) ∙ size ∙ ap (λ (z : List (List ℕ)). length z) (sym roles)) quiet there) [
      | inl h ↦ elim (set_cases parts r k part m h) [
        | inl c ↦ inr (
          (λ x old. let t = twice_there bytes at names parts part.role k x rs (sym c.0) old in z t.0 t.1),
          (λ suf t p b.
              let mine = own_goes bytes k at names new part next s calm suf t p b in
              record {
                shown = mine.seen;
                rest = go names.roles k (signs_of mine.others) mine.part mine.before;
                is = mine.is ∙ ap (λ y. only_if y mine.seen ++ go names.roles k (signs_of mine.others) mine.part mine.before) (eq-eqb r k (sym c.0));
                shows = subst (λ (y : Machine_data). Shows names.roles y.states mine.seen) (sym c.1) mine.shows;
              }),
        )
        | inr old ↦ inl old
      ]
      | inr h ↦ elim (eqb_tells r k) [
        | inl c ↦
            let place = rs.place_is in
            let bounded = rs.bounded in
            let mine : k < length parts = subst (λ (y : ℕ). k < y) (sym size) (subst (λ (y : ℕ). y < length names.roles) (sym place ∙ c.1) bounded) in
            absurd (h.0 part (ap (λ y. slice_get (slice_set parts y (Some part)) k) c.1 ∙ set_here parts k (Some part) mine))
        | inr c ↦ inr (
          (λ x old. h.0 x (set_other parts r k (Some part) (λ same. c.1 (sym same)) ∙ old)),
          (λ suf t p b.
              let mine = own_goes bytes k at names new part next s calm suf t p b in
              let later = (subst (λ (y : List (List ℕ)). AreShown bytes y k next m) roles h.1) mine.others mine.tokens mine.part mine.before in
              record {
                shown = later.shown;
                rest = later.rest;
                is = mine.is ∙ ap (λ y. only_if y mine.seen ++ go names.roles k (signs_of mine.others) mine.part mine.before) c.0 ∙ later.is;
                shows = later.shows;
              }),
        )
      ]
    ]
