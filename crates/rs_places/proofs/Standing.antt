-- A pass over the tokens of a text, three by three, finds the places that the definition names.
use Rattle.std.proofs.Common.{◌≡◌, ℕ, ◌+◌, ◌-◌, ◌<◌, ◌≤◌, List, [], ◌∷◌, ◌++◌, length, drop, map, Bool, true, false, Option, Some, None, slice_index_or, if◌then◌else◌, ◌&&◌, codes, replicate, inl, inr, refl, sym, ap, ◌∙◌, subst, arith}
use Rattle.std.proofs.lemmas.Bool.Decides.{eqb_tells}
use Rattle.std.proofs.lemmas.List.{append_assoc, append-nil, get_or-replicate, get_or-set_same, get_or-set_other, length-replicate, length-set}
use Rattle.std.proofs.lemmas.Option.{slice_get-get_or}
use Rattle.rs_text.specs.Lexemes.{Lexeme, is_last}
use Rattle.rs_text.specs.Lexing.{Lexed, next_lexeme}
use Rattle.rs_text.specs.Names.{place_of}
use Rattle.rs_text.specs.Signs.{Sign, finish, broken}
use Rattle.rs_text.specs.Seen.{plain_text}
use Rattle.rs_text.specs.TokenTests.{is_keyword, is_colon, is_open_brace}
use Rattle.rs_text.specs.Tokens.{AreTokens, IsNext, IsToken, gap_bytes, nothing}
use Rattle.rs_text.proofs.Gaps.{true_or_false}
use Rattle.rs_text.proofs.Nexts.{next_is_next, one_next, takes_up, exists, are_lexed, behind_gap}
use Rattle.rs_text.proofs.Numbers.{place_below}
use Rattle.rs_places.specs.declared.places.Position.{Position}
use Rattle.rs_places.specs.declared.tokens.Part.{Part}
use Rattle.rs_places.specs.declared.tokens.Part.TheVariants as part
use Rattle.rs_places.specs.declared.tokens.StateStart.{StateStart}
use Rattle.rs_places.specs.Finding.{Finder_data, begin, AreOfRoles, IsOfRole, Takes, talks_with, machines_with}
use Rattle.rs_places.specs.Places.{ArePlaces, position_of, talk_places, state_places}
use Rattle.rs_places.specs.Starts.{Trio, trio, trios_behind, is_arrow, is_number, talk_offsets, body_of, table_of, part_by_name, part_behind, placed, state_at, if_any, state_starts, offsets_of_role}

-- these tokens stand after the token
pub record AreBehind (bytes : List ℕ) (l : Lexeme) (rest : List Lexeme) : Type 0 where
  pub none : is_last l.sign ≡ true → rest ≡ []
  pub some : is_last l.sign ≡ false → Lexed bytes l.until rest

-- what was found, with what begins at two tokens and after, is all
pub record Stands (bytes : List ℕ) (roles : List (List ℕ)) (f : Finder_data) (first second : Lexeme) : Type 0 where
  pub all : List Lexeme
  pub tokens : AreTokens bytes 0 all
  pub rest : List Lexeme
  pub behind : AreBehind bytes second rest
  pub talks : f.places.talks ++ map (position_of bytes) (talk_offsets (trios_behind rest first second)) ≡ talk_places bytes all
  pub states : (role : ℕ) → role < length roles → slice_index_or f.places.machines role [] ++ map (position_of bytes) (offsets_of_role role (state_starts (placed roles (trios_behind rest first second) f.part)))
      ≡ state_places bytes roles all role

-- ---- the last token comes again

no_text : (s : Sign) (text behind : List ℕ) → IsToken s text behind → is_last s ≡ true → text ≡ []
no_text finish text behind t h = t.0
no_text (broken k) text behind t h = t.0
no_text _ text behind t h = absurd (cc h)

again_by : (bytes : List ℕ) (at : ℕ) (l : Lexeme) (x : IsNext bytes at l) → x.text ≡ [] → IsNext bytes l.until l
again_by bytes at l x none =
    let size : length x.text ≡ 0 = ap (λ z. length z) none in
    let from = x.from in
    let until = x.until in
    let same : l.until ≡ at + length (gap_bytes x.gap) = omega arith in
    let rest : drop (at + length (gap_bytes x.gap)) bytes ≡ x.text ++ x.behind = behind_gap bytes at (length (gap_bytes x.gap)) (gap_bytes x.gap) (x.text ++ x.behind) x.parts refl in
    record {
      gap = nothing;
      text = x.text;
      behind = x.behind;
      parts = ap (λ z. drop z bytes) same ∙ rest;
      between = tt;
      token = x.token;
      from = omega arith;
      until = x.until;
    }

last_again : (bytes : List ℕ) (at : ℕ) (l : Lexeme) → l ≡ next_lexeme bytes at → is_last l.sign ≡ true → is_last (next_lexeme bytes l.until).sign ≡ true
last_again bytes at l e last =
    let x : IsNext bytes at l = subst (λ (z : Lexeme). IsNext bytes at z) (sym e) (next_is_next bytes at) in
    let again : l ≡ next_lexeme bytes l.until = one_next bytes l.until l (again_by bytes at l x (no_text l.sign x.text x.behind x.token last)) in
    ap (λ z. is_last z.sign) (sym again) ∙ last

-- ---- it begins

no_states_at : (n role : ℕ) (xs : List Position) → role < n → slice_index_or (replicate n []) role [] ++ xs ≡ xs
no_states_at n role xs h = ap (λ z. z ++ xs) (get_or-replicate n role [] [] h)

only_last : (bytes : List ℕ) (a : Lexeme) → (is_last a.sign ≡ false → Lexed bytes a.until []) → is_last a.sign ≡ true
only_last bytes a h = elim (true_or_false (is_last a.sign)) [
  | inl e ↦ e
  | inr e ↦ absurd (h e)
]

not_last : (a b : Lexeme) (ls : List Lexeme) → (is_last a.sign ≡ true → b ∷ ls ≡ []) → is_last a.sign ≡ false
not_last a b ls h = elim (true_or_false (is_last a.sign)) [
  | inl e ↦ absurd (cc (h e))
  | inr e ↦ e
]

begins_with : (bytes : List ℕ) (roles : List (List ℕ)) (first second : Lexeme) (all : List Lexeme) → AreTokens bytes 0 all → Lexed bytes 0 all → first ≡ next_lexeme bytes 0
    → second ≡ next_lexeme bytes first.until → Stands bytes roles (begin bytes roles) first second
begins_with bytes roles first second [] t h e k = absurd h
begins_with bytes roles first second (a ∷ []) t h e k =
    let a_is : a ≡ first = h.0 ∙ sym e in
    let last : is_last a.sign ≡ true = only_last bytes a h.2 in
    let again : is_last second.sign ≡ true = ap (λ z. is_last z.sign) k ∙ last_again bytes 0 first e (ap (λ z. is_last z.sign) (sym a_is) ∙ last) in
    record {
      all = a ∷ [];
      tokens = t;
      rest = [];
      behind = record { none = λ _. refl; some = λ n. absurd (cc (n, again)) };
      talks = refl;
      states = λ role h. no_states_at (length roles) role [] h;
    }
begins_with bytes roles first second (a ∷ b ∷ ls) t h e k =
    let a_is : a ≡ first = h.0 ∙ sym e in
    let more : is_last a.sign ≡ false = not_last a b ls h.1 in
    let here = h.2 more in
    let b_is : b ≡ second = here.0 ∙ ap (λ z. next_lexeme bytes z.until) a_is ∙ sym k in
    record {
      all = a ∷ b ∷ ls;
      tokens = t;
      rest = ls;
      behind = subst (λ (z : Lexeme). AreBehind bytes z ls) b_is (record { none = here.1; some = here.2 });
      talks = ap (λ z. map (position_of bytes) (talk_offsets (trios_behind ls z second))) (sym a_is) ∙ ap (λ z. map (position_of bytes) (talk_offsets (trios_behind ls a z))) (sym b_is);
      states = λ role h. no_states_at (length roles) role _ h ∙ ap (λ z. state_places bytes roles (z ∷ second ∷ ls) role) (sym a_is) ∙ ap (λ z. state_places bytes roles (a ∷ z ∷ ls) role) (sym b_is);
    }

pub begins : (bytes : List ℕ) (roles : List (List ℕ)) (first second : Lexeme) → first ≡ next_lexeme bytes 0 → second ≡ next_lexeme bytes first.until
    → Stands bytes roles (begin bytes roles) first second
begins bytes roles first second e k =
    let some = exists bytes 0 (omega arith) in
    begins_with bytes roles first second some.0 some.1 (are_lexed bytes some.0 0 some.1) e k

-- ---- it goes on

joined : (xs ys : List Position) (p : Position) → (xs ++ p ∷ []) ++ ys ≡ xs ++ p ∷ ys
joined xs ys p = append_assoc xs (p ∷ []) ys

talks_on : (bytes : List ℕ) (t : Trio) (ts : List Trio) (talks : List Position) (b : Bool) → is_arrow t.second.sign ≡ b
    → talks_with bytes t talks ++ map (position_of bytes) (talk_offsets ts) ≡ talks ++ map (position_of bytes) (talk_offsets (t ∷ ts))
talks_on bytes t ts talks true e = rw e (joined talks (map (position_of bytes) (talk_offsets ts)) (position_of bytes t.first.from))
talks_on bytes t ts talks false e = rw e refl

states_on : (bytes : List ℕ) (s : Option StateStart) (xs : List StateStart) (machines : List (List Position)) (role : ℕ) → role < length machines
    → slice_index_or (machines_with bytes s machines) role [] ++ map (position_of bytes) (offsets_of_role role xs) ≡ slice_index_or machines role [] ++ map (position_of bytes) (offsets_of_role role (if_any s ++ xs))
states_on bytes None xs machines role h = refl
states_on bytes (Some s) xs machines role h = elim (eqb_tells s.role role) [
  | inl e ↦ rw (e.0, e.1, get_or-set_same machines role (slice_index_or machines role [] ++ position_of bytes s.from ∷ []) [] h)
      (joined (slice_index_or machines role []) (map (position_of bytes) (offsets_of_role role xs)) (position_of bytes s.from))
  | inr e ↦ rw (e.0, get_or-set_other machines s.role role (slice_index_or machines s.role [] ++ position_of bytes s.from ∷ []) [] (λ same. e.1 (sym same))) refl
]

body_is : (roles : List (List ℕ)) (name : List ℕ) (k : Option ℕ) → place_of name roles ≡ k → IsOfRole (length roles) (body_of roles name)
body_is roles name None e = rw e tt
body_is roles name (Some k) e = rw e (place_below roles name k e)

table_is : (roles : List (List ℕ)) (name : List ℕ) (k : Option ℕ) → place_of name roles ≡ k → IsOfRole (length roles) (table_of roles name)
table_is roles name None e = rw e tt
table_is roles name (Some k) e = rw e (place_below roles name k e)

if_of : (n : ℕ) (b : Bool) (p q : Part) → IsOfRole n p → IsOfRole n q → IsOfRole n (if b then p else q)
if_of n true p q h k = h
if_of n false p q h k = k

named_of : (roles : List (List ℕ)) (p : Part) (t : Trio) (name : Option (List ℕ)) → IsOfRole (length roles) p → IsOfRole (length roles) (part_by_name roles p t name)
named_of roles p t None h = h
named_of roles p t (Some name) h =
    if_of (length roles) (is_keyword (codes "machine") t.first.sign && is_colon t.third.sign) (body_of roles name) (if is_keyword (codes "table") t.first.sign && is_open_brace t.third.sign then table_of roles name else p)
    (body_is roles name (place_of name roles) refl)
    (if_of (length roles) (is_keyword (codes "table") t.first.sign && is_open_brace t.third.sign) (table_of roles name) p (table_is roles name (place_of name roles) refl) h)

part_of : (roles : List (List ℕ)) (p : Part) (t : Trio) → IsOfRole (length roles) p → IsOfRole (length roles) (part_behind roles p t)
part_of roles p t h =
    if_of (length roles) (is_keyword (codes "bound") t.first.sign && (is_number t.second.sign && is_open_brace t.third.sign)) part.Other (part_by_name roles p t (plain_text t.second.sign)) tt
    (named_of roles p t (plain_text t.second.sign) h)

length_with : (bytes : List ℕ) (s : Option StateStart) (machines : List (List Position)) → length (machines_with bytes s machines) ≡ length machines
length_with bytes None machines = refl
length_with bytes (Some s) machines = length-set machines s.role (slice_index_or machines s.role [] ++ position_of bytes s.from ∷ [])

pub stays_of_roles : (f g : Finder_data) (t : Trio) → AreOfRoles f → Takes f t g → AreOfRoles g
stays_of_roles f g t h k = record {
  count = ap (λ z. length z) k.machines ∙ length_with f.bytes (state_at f.part t.first t.second) f.places.machines ∙ h.count ∙ ap (λ z. length z) (sym k.roles);
  part = subst (λ (z : Part). IsOfRole (length g.roles) z) (sym k.part) (subst (λ (z : List (List ℕ)). IsOfRole (length z) (part_behind f.roles f.part t)) (sym k.roles) (part_of f.roles f.part t h.part));
}

on_with : (bytes : List ℕ) (roles : List (List ℕ)) (f g : Finder_data) (first second third : Lexeme) (all rest : List Lexeme) → AreTokens bytes 0 all → Lexed bytes second.until rest
    → f.places.talks ++ map (position_of bytes) (talk_offsets (trios_behind rest first second)) ≡ talk_places bytes all
    → ((role : ℕ) → role < length roles → slice_index_or f.places.machines role [] ++ map (position_of bytes) (offsets_of_role role (state_starts (placed roles (trios_behind rest first second) f.part)))
    ≡ state_places bytes roles all role)
    → third ≡ next_lexeme bytes second.until → f.bytes ≡ bytes → f.roles ≡ roles → AreOfRoles f → Takes f (trio first second third) g → Stands bytes roles g second third
on_with bytes roles f g first second third all [] t h talks states e b r o k = absurd h
on_with bytes roles f g first second third all (c ∷ cs) t h talks states e b r o k =
    let c_is : c ≡ third = h.0 ∙ sym e in
    let s = state_at f.part first second in
    let later = state_starts (placed roles (trios_behind cs second third) (part_behind roles f.part (trio first second third))) in
    let enough : length f.places.machines ≡ length roles = o.count ∙ ap (λ z. length z) r in
    record {
      all = all;
      tokens = t;
      rest = cs;
      behind = subst (λ (z : Lexeme). AreBehind bytes z cs) c_is (record { none = h.1; some = h.2 });
      talks = ap (λ z. z ++ map (position_of bytes) (talk_offsets (trios_behind cs second third))) (k.talks ∙ ap (λ z. talks_with z (trio first second third) f.places.talks) b)
          ∙ talks_on bytes (trio first second third) (trios_behind cs second third) f.places.talks (is_arrow second.sign) refl
          ∙ ap (λ z. f.places.talks ++ map (position_of bytes) (talk_offsets (trios_behind (z ∷ cs) first second))) (sym c_is)
          ∙ talks;
      states = λ role h.
          ap (λ z. slice_index_or z role [] ++ map (position_of bytes) (offsets_of_role role (state_starts (placed roles (trios_behind cs second third) g.part)))) (k.machines ∙ ap (λ z. machines_with z s f.places.machines) b)
          ∙ ap (λ z. slice_index_or (machines_with bytes s f.places.machines) role [] ++ map (position_of bytes) (offsets_of_role role (state_starts (placed roles (trios_behind cs second third) z)))) (k.part ∙ ap (λ z. part_behind z f.part (trio first second third)) r)
          ∙ states_on bytes s later f.places.machines role (subst (λ (z : ℕ). role < z) (sym enough) h)
          ∙ ap (λ z. slice_index_or f.places.machines role [] ++ map (position_of bytes) (offsets_of_role role (state_starts (placed roles (trios_behind (z ∷ cs) first second) f.part)))) (sym c_is)
          ∙ states role h;
    }

pub goes_on : (bytes : List ℕ) (roles : List (List ℕ)) (f g : Finder_data) (first second third : Lexeme) → Stands bytes roles f first second → is_last second.sign ≡ false
    → third ≡ next_lexeme bytes second.until → f.bytes ≡ bytes → f.roles ≡ roles → AreOfRoles f → Takes f (trio first second third) g → Stands bytes roles g second third
goes_on bytes roles f g first second third s more e b r o k = on_with bytes roles f g first second third s.all s.rest s.tokens (s.behind.some more) s.talks s.states e b r o k

pub shrinks : (bytes : List ℕ) (at : ℕ) (second third : Lexeme) → second ≡ next_lexeme bytes at → is_last second.sign ≡ false → second.until ≤ third.from → third.from ≤ length bytes
    → length bytes - third.from < length bytes - second.from
shrinks bytes at second third e more ahead within =
    let x : IsNext bytes at second = subst (λ (z : Lexeme). IsNext bytes at z) (sym e) (next_is_next bytes at) in
    let some : 0 < length x.text = takes_up second.sign x.text x.behind x.token more in
    let until : second.until ≡ second.from + length x.text = x.until in
    omega arith

-- ---- it ends

pub ends : (bytes : List ℕ) (roles : List (List ℕ)) (f : Finder_data) (first second : Lexeme) → Stands bytes roles f first second → is_last second.sign ≡ true → f.roles ≡ roles → AreOfRoles f
    → ArePlaces bytes roles f.places
ends bytes roles f first second s last r o =
    let none = s.behind.none last in
    let count : length f.places.machines ≡ length roles = o.count ∙ ap (λ z. length z) r in
    record {
      lexemes = s.all;
      tokens = s.tokens;
      talks = sym (append-nil f.places.talks) ∙ ap (λ z. f.places.talks ++ map (position_of bytes) (talk_offsets (trios_behind z first second))) (sym none) ∙ s.talks;
      count = count;
      states = λ role h. slice_get-get_or f.places.machines role [] (subst (λ (z : ℕ). role < z) (sym count) h) ∙ ap (λ z. Some z) (
          sym (append-nil (slice_index_or f.places.machines role []))
          ∙ ap (λ z. slice_index_or f.places.machines role [] ++ map (position_of bytes) (offsets_of_role role (state_starts (placed roles (trios_behind z first second) f.part)))) (sym none)
          ∙ s.states role h);
    }

-- ---- as the loop needs it

-- what holds before each three tokens
abbrev pub Holds : List ℕ → List (List ℕ) → Finder_data → Lexeme → Lexeme → Type 0
Holds bytes roles f first second = (f.bytes ≡ bytes)
    × (f.roles ≡ roles)
    × (f.position ≡ position_of bytes f.at)
    × (f.at ≤ first.from)
    × (first.from ≤ second.from)
    × (second.from ≤ second.until)
    × (second.until ≤ length bytes)
    × (second ≡ next_lexeme bytes first.until)
    × AreOfRoles f
    × Stands bytes roles f first second

pub holds_first : (bytes : List ℕ) (roles : List (List ℕ)) (f : Finder_data) (first second : Lexeme) → f ≡ begin bytes roles → first ≡ next_lexeme bytes 0 → second ≡ next_lexeme bytes first.until
    → first.from ≤ second.from → second.from ≤ second.until → second.until ≤ length bytes → Holds bytes roles f first second
holds_first bytes roles f first second b e k order size within = subst (λ (z : Finder_data). Holds bytes roles z first second) (sym b) (
  refl,
  refl,
  refl,
  omega arith,
  order,
  size,
  within,
  k,
  record { count = length-replicate (length roles) []; part = tt },
  begins bytes roles first second e k,
)

pub holds_next : (bytes : List ℕ) (roles : List (List ℕ)) (f g : Finder_data) (first second third : Lexeme) → Holds bytes roles f first second → is_last second.sign ≡ false
    → third ≡ next_lexeme bytes second.until → second.from ≤ third.from → third.from ≤ third.until → third.until ≤ length bytes → Takes f (trio first second third) g → Holds bytes roles g second third
holds_next bytes roles f g first second third h more e order size within k =
    let same : g.bytes ≡ bytes = k.bytes ∙ h.0 in (
      same,
      k.roles ∙ h.1,
      k.counted ∙ ap (λ z. position_of z g.at) same,
      k.ahead,
      order,
      size,
      within,
      e,
      stays_of_roles f g (trio first second third) h.8 k,
      goes_on bytes roles f g first second third h.9 more e h.0 h.1 h.8 k,
    )
