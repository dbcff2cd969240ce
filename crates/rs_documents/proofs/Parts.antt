-- What stands of parts of one kind is one thing, and how it is found.
use Rattle.std.proofs.Common.{◌≡◌, ◌⊎◌, ℕ, zero, suc, ◌+◌, ◌<◌, ◌≤◌, List, [], ◌∷◌, ◌++◌, length, Bool, true, false, if◌then◌else◌, Option, Some, None, Result, Ok, Err, refl, sym, ap, subst, ◌∙◌}
use Rattle.std.proofs.Common.{inl, inr, arith, slice_get, slice_set}
use Rattle.std.specs.Prelude.{◌||◌}
use Rattle.std.specs.Str.{bytes_eq}
use Rattle.std.proofs.lemmas.Slice.Eq.{bytes_eq-Decides}
use Rattle.rs_documents.specs.Parts.{PartKind, BeginsAt, NextTokenIs, no_parts, parts_with, IsTwice, PartsRead, GoesOn, Stops, Repeats, Fails, Adds}
use Rattle.rs_documents.specs.Reading.{is_this_word, is_held, place_named, twice_by, twice_of, AreGood, free_in, LeadsBack, IsAdded}
use Rattle.rs_documents.specs.Ready.{AllHave, StandInPlace, AreHeld}
use Rattle.rs_model.specs.Data.{Names_data}
use Rattle.rs_model.specs.declared.graph.Role.{Role}
use Rattle.rs_model.specs.declared.limits.TheConstants.{MOST_LABELS}
use Rattle.rs_text.proofs.Nexts.{within}
use Rattle.rs_text.specs.Lexemes.{Lexeme, is_last, signs_of}
use Rattle.rs_text.specs.Lexing.{Lexed, next_lexeme}
use Rattle.rs_text.specs.Names.{place_from, place_of, is_among}
use Rattle.rs_text.specs.Seen.{plain_text}
use Rattle.rs_text.specs.Signs.{Sign, rec_word, end_word, plain, number, arrow, bang, question, colon, dot, comma, open_brace, close_brace, open_paren, close_paren, open_bracket, close_bracket}
use Rattle.rs_text.specs.Signs.{finish, broken}
use Rattle.rs_text.specs.Sound.{AreReadable}
use Rattle.rs_text.specs.declared.faults.TextFault.{TextFault}
use Rattle.rs_text.specs.declared.faults.TextKind.{TextKind}
use Rattle.rs_text.specs.declared.faults.TextKind.TheVariants as fault

-- the word of a test
pub word_is : (word : List ℕ) (s : Sign) → is_this_word word s ≡ true → s ≡ plain word
word_is word (plain text) e = ap plain ((bytes_eq-Decides text word).0 e)
word_is word rec_word e = cc
word_is word end_word e = cc
word_is word (number n) e = cc
word_is word arrow e = cc
word_is word bang e = cc
word_is word question e = cc
word_is word colon e = cc
word_is word dot e = cc
word_is word comma e = cc
word_is word open_brace e = cc
word_is word close_brace e = cc
word_is word open_paren e = cc
word_is word close_paren e = cc
word_is word open_bracket e = cc
word_is word close_bracket e = cc
word_is word finish e = cc
word_is word (broken k) e = cc

pub word_isnt : (word : List ℕ) (s : Sign) → is_this_word word s ≡ false → s ≡ plain word → ⊥
word_isnt word s e same =
    let here : is_this_word word (plain word) ≡ false = subst (λ (z : Sign). is_this_word word z ≡ false) same e in
    let there : bytes_eq word word ≡ true = (bytes_eq-Decides word word).1 refl in
    let clash : true ≡ false = sym there ∙ here in cc

pub plain_is : (s : Sign) (w : List ℕ) → plain_text s ≡ Some w → s ≡ plain w
plain_is (plain text) w e = let same : text ≡ w = cc in ap plain same
plain_is rec_word w e = cc
plain_is end_word w e = cc
plain_is (number n) w e = cc
plain_is arrow w e = cc
plain_is bang w e = cc
plain_is question w e = cc
plain_is colon w e = cc
plain_is dot w e = cc
plain_is comma w e = cc
plain_is open_brace w e = cc
plain_is close_brace w e = cc
plain_is open_paren w e = cc
plain_is close_paren w e = cc
plain_is open_bracket w e = cc
plain_is close_bracket w e = cc
plain_is finish w e = cc
plain_is (broken k) w e = cc

-- the second token of what begins at the offset
abbrev pub second_of : List ℕ → ℕ → Lexeme
second_of bytes at = next_lexeme bytes (next_lexeme bytes at).until

held_is : {A : Type 0} (bytes : List ℕ) (names : Names_data) (parts : List (Option A)) (at second place : ℕ) (name : List ℕ) (q : Option (Option A))
    → (second_of bytes at).sign ≡ plain name → place_of name names.roles ≡ Some place → slice_get parts place ≡ q → (if is_held q then Some (second_of bytes at).from else None) ≡ Some second
    → IsTwice bytes names parts at second
held_is bytes names parts at second place name None w p q e = absurd cc
held_is bytes names parts at second place name (Some None) w p q e = absurd cc
held_is bytes names parts at second place name (Some (Some m)) w p q e =
    let same : (second_of bytes at).from ≡ second = cc in
    record { name = name; word = w; place = place; role = p; part = m; has = q; stands = sym same }

placed_is : {A : Type 0} (bytes : List ℕ) (names : Names_data) (parts : List (Option A)) (at second : ℕ) (name : List ℕ) (p : Option ℕ)
    → (second_of bytes at).sign ≡ plain name → place_of name names.roles ≡ p → twice_by p parts (second_of bytes at).from ≡ Some second → IsTwice bytes names parts at second
placed_is bytes names parts at second name None w p e = absurd cc
placed_is bytes names parts at second name (Some place) w p e = held_is bytes names parts at second place name (slice_get parts place) w p refl e

named_is : {A : Type 0} (bytes : List ℕ) (names : Names_data) (parts : List (Option A)) (at second : ℕ) (o : Option (List ℕ))
    → plain_text (second_of bytes at).sign ≡ o → twice_by (place_named o names.roles) parts (second_of bytes at).from ≡ Some second → IsTwice bytes names parts at second
named_is bytes names parts at second None w e = absurd cc
named_is bytes names parts at second (Some name) w e = placed_is bytes names parts at second name (place_of name names.roles) (plain_is (second_of bytes at).sign name w) refl e

-- a role that has a part is found
pub twice_is : {A : Type 0} (bytes : List ℕ) (names : Names_data) (parts : List (Option A)) (at second : ℕ) → twice_of names parts (second_of bytes at) ≡ Some second
    → IsTwice bytes names parts at second
twice_is bytes names parts at second e = named_is bytes names parts at second (plain_text (second_of bytes at).sign) refl e

-- a role that has a part is found, wherever it stands
pub twice_found : {A : Type 0} (bytes : List ℕ) (names : Names_data) (parts : List (Option A)) (at second : ℕ) → IsTwice bytes names parts at second
    → twice_of names parts (second_of bytes at) ≡ Some second
twice_found bytes names parts at second h =
    ap (λ s. twice_by (place_named (plain_text s) names.roles) parts (second_of bytes at).from) h.word
    ∙ ap (λ p. twice_by p parts (second_of bytes at).from) h.role
    ∙ ap (λ q. if is_held q then Some (second_of bytes at).from else None) h.has
    ∙ ap Some (sym h.stands)

pub none_twice : {A : Type 0} (bytes : List ℕ) (names : Names_data) (parts : List (Option A)) (at : ℕ) → twice_of names parts (second_of bytes at) ≡ None → (second : ℕ)
    → IsTwice bytes names parts at second → ⊥
none_twice bytes names parts at e second h = let f : Some second ≡ None = sym (twice_found bytes names parts at second h) ∙ e in cc

same_twice : {A : Type 0} (bytes : List ℕ) (names : Names_data) (parts : List (Option A)) (at a b : ℕ) → IsTwice bytes names parts at a → IsTwice bytes names parts at b → a ≡ b
same_twice bytes names parts at a b h k = let same : Some a ≡ Some b = sym (twice_found bytes names parts at a h) ∙ twice_found bytes names parts at b k in cc

-- the first two tokens
pub first_sign : (bytes : List ℕ) (at : ℕ) (ls rest : List Lexeme) (a : Sign) (more : List Sign) → signs_of ls ≡ a ∷ more → Lexed bytes at (ls ++ rest) → NextTokenIs bytes at a
first_sign bytes at [] rest a more e h = absurd cc
first_sign bytes at (x ∷ xs) rest a more e h = let first : x.sign ≡ a = cc in sym (ap (λ z. z.sign) h.0) ∙ first

pub second_sign : (bytes : List ℕ) (at : ℕ) (ls rest : List Lexeme) (a b : Sign) (more : List Sign) → is_last a ≡ false → signs_of ls ≡ a ∷ b ∷ more → Lexed bytes at (ls ++ rest)
    → (second_of bytes at).sign ≡ b
second_sign bytes at [] rest a b more f e h = absurd cc
second_sign bytes at (x ∷ []) rest a b more f e h = absurd cc
second_sign bytes at (x ∷ y ∷ zs) rest a b more f e h =
    let first : x.sign ≡ a = cc in
    let second : y.sign ≡ b = cc in
    let lexed : Lexed bytes x.until (y ∷ (zs ++ rest)) = h.2 (ap is_last first ∙ f) in
    sym (ap (λ z. (next_lexeme bytes z.until).sign) h.0) ∙ sym (ap (λ z. z.sign) lexed.0) ∙ second

pub among_place : (names : List (List ℕ)) (name : List ℕ) (n : ℕ) → is_among name names ≡ true → (k : ℕ) × (place_from n name names ≡ Some k) × (k < n + length names)
among_place [] name n h = absurd cc
among_place (x ∷ names) name n h = go (bytes_eq x name) h (among_place names name (suc n))
  where
    go : (b : Bool) → (b || is_among name names) ≡ true → (is_among name names ≡ true → (k : ℕ) × (place_from (suc n) name names ≡ Some k) × (k < suc n + length names))
        → (k : ℕ) × ((if b then Some n else place_from (suc n) name names) ≡ Some k) × (k < n + suc (length names))
    go true h f = (n, refl, omega arith)
    go false h f = let g = f h in let lt : g.0 < suc n + length names = g.2 in (g.0, g.1, omega arith)

get_there : {A : Type 0} → (xs : List A) (k : ℕ) → k < length xs → slice_get xs k ≡ None → ⊥
get_there {A} [] k lt e = absurd (omega arith)
get_there {A} (x ∷ xs) zero lt e = cc
get_there {A} (x ∷ xs) (suc k) lt e = get_there xs k (omega arith) e

-- a part's second token names its role
pub record RoleStands (bytes : List ℕ) (at : ℕ) (names : Names_data) (role : Role) : Type 0 where
  pub name : List ℕ
  pub place : ℕ
  pub word : NextTokenIs bytes (next_lexeme bytes at).until (plain name)
  pub known : place_of name names.roles ≡ Some place
  pub bounded : place < length names.roles
  pub place_is : role.0 ≡ place

abbrev IsFree : {A : Type 0} → List ℕ → Names_data → List (Option A) → ℕ → Type 0
IsFree bytes names parts at = (second : ℕ) → IsTwice bytes names parts at second → ⊥

free_by : {A : Type 0} (bytes : List ℕ) (names : Names_data) (parts : List (Option A)) (at k : ℕ) (name : List ℕ) (q : Option (Option A)) → (second_of bytes at).sign ≡ plain name
    → place_of name names.roles ≡ Some k
    → k < length parts → slice_get parts k ≡ q → IsFree bytes names parts at → q ≡ Some None
free_by bytes names parts at k name None w p lt e never = absurd (get_there parts k lt e)
free_by bytes names parts at k name (Some None) w p lt e never = refl
free_by bytes names parts at k name (Some (Some m)) w p lt e never =
    absurd (never (second_of bytes at).from (record { name = name; word = w; place = k; role = p; part = m; has = e; stands = refl }))

-- the role of a part that was read, where it isn't the second one, has none
pub slot_free : {A : Type 0} (bytes : List ℕ) (at : ℕ) (names : Names_data) (parts : List (Option A)) (role : Role) → RoleStands bytes at names role → length parts ≡ length names.roles
    → IsFree bytes names parts at → slice_get parts role.0 ≡ Some None
slot_free bytes at names parts role r size never =
    let lt : r.place < length names.roles = r.bounded in
    ap (slice_get parts) r.place_is ∙ free_by bytes names parts at r.place r.name (slice_get parts r.place) r.word r.known (omega (arith, size, lt)) refl never

-- a role that has a part has it where the second token says
pub twice_of_role : {A : Type 0} (bytes : List ℕ) (at : ℕ) (names : Names_data) (parts : List (Option A)) (role : Role) (part : A) → RoleStands bytes at names role
    → slice_get parts role.0 ≡ Some (Some part)
    → IsTwice bytes names parts at (second_of bytes at).from
twice_of_role bytes at names parts role part r h =
    record { name = r.name; word = r.word; place = r.place; role = r.known; part = part; has = ap (slice_get parts) (sym r.place_is) ∙ h; stands = refl }

-- a role that has a part has it only where the second token says
pub role_of_twice : {A : Type 0} (bytes : List ℕ) (at second : ℕ) (names : Names_data) (parts : List (Option A)) (role : Role) → RoleStands bytes at names role → IsTwice bytes names parts at second
    → (part : A) × (slice_get parts role.0 ≡ Some (Some part))
role_of_twice bytes at second names parts role r t =
    let sign : plain r.name ≡ plain t.name = sym r.word ∙ t.word in
    let name : r.name ≡ t.name = cc in
    let same : Some r.place ≡ Some t.place = sym r.known ∙ ap (λ z. place_of z names.roles) name ∙ t.role in
    let place : r.place ≡ t.place = cc in
    (t.part, ap (slice_get parts) (r.place_is ∙ place) ∙ t.has)

-- lists of parts
pub free_less : {A : Type 0} (parts : List (Option A)) (k : ℕ) (m : A) → slice_get parts k ≡ Some None → free_in (slice_set parts k (Some m)) < free_in parts
free_less [] k m e = absurd cc
free_less (None ∷ xs) zero m e = omega arith
free_less (Some x ∷ xs) zero m e = absurd cc
free_less (None ∷ xs) (suc k) m e = let f = free_less xs k m e in omega arith
free_less (Some x ∷ xs) (suc k) m e = free_less xs k m e

pub set_size : {A : Type 0} (parts : List A) (k : ℕ) (m : A) → length (slice_set parts k m) ≡ length parts
set_size [] k m = refl
set_size (x ∷ xs) zero m = refl
set_size (x ∷ xs) (suc k) m = ap suc (set_size xs k m)

set_at : {A : Type 0} (parts : List (Option A)) (k : ℕ) (m : A) (j : ℕ) (x : A) → slice_get (slice_set parts k (Some m)) j ≡ Some (Some x) → ((j ≡ k) × (x ≡ m)) ⊎ (slice_get parts j ≡ Some (Some x))
set_at [] k m j x e = absurd cc
set_at (y ∷ ys) zero m zero x e = inl (refl, cc)
set_at (y ∷ ys) zero m (suc j) x e = inr e
set_at (y ∷ ys) (suc k) m zero x e = inr e
set_at (y ∷ ys) (suc k) m (suc j) x e = elim (set_at ys k m j x e) [
  | inl h ↦ inl (ap suc h.0, h.1)
  | inr h ↦ inr h
]

pub set_all : {A : Type 0} (P : A → Type 0) (parts : List (Option A)) (k : ℕ) (m : A) → AllHave P parts → P m → AllHave P (slice_set parts k (Some m))
set_all P parts k m all h j x e = elim (set_at parts k m j x e) [
  | inl same ↦ subst P (sym same.1) h
  | inr there ↦ all j x there
]

pub set_in_place : {A : Type 0} (role_of : A → Role) (parts : List (Option A)) (m : A) → StandInPlace role_of parts → StandInPlace role_of (slice_set parts (role_of m).0 (Some m))
set_in_place role_of parts m placed j x e = elim (set_at parts (role_of m).0 m j x e) [
  | inl h ↦ ap (λ z. (role_of z).0) h.1 ∙ sym h.0
  | inr there ↦ placed j x there
]

pub size_of_none : (A : Type 0) (names : List (List ℕ)) → length (no_parts {A = A} names) ≡ length names
size_of_none A [] = refl
size_of_none A (x ∷ xs) = ap suc (size_of_none A xs)

pub none_there : {A : Type 0} (names : List (List ℕ)) (k : ℕ) (m : A) → slice_get (no_parts {A = A} names) k ≡ Some (Some m) → ⊥
none_there [] k m e = cc
none_there (x ∷ xs) zero m e = cc
none_there (x ∷ xs) (suc k) m e = none_there xs k m e

pub none_held : {A : Type 0} (role_of : A → Role) (P : A → Type 0) (names : List (List ℕ)) → AreHeld role_of P names (no_parts {A = A} names)
none_held {A} role_of P names = record { one_each = size_of_none A names; in_place = λ k m e. absurd (none_there names k m e); all = λ k m e. absurd (none_there names k m e) }

-- what is known of a kind of part
abbrev SpeltOrFaulty : {A : Type 0} → PartKind A → Names_data → List ℕ → ℕ → Type 0
SpeltOrFaulty {A} kind old bytes at = ((new : Names_data) × (part : A) × (until : ℕ) × kind.Spells bytes at old new part until) ⊎ ((k : TextKind) × (offset : ℕ) × kind.Fails old bytes at k offset)

pub record IsKind {A : Type 0} (kind : PartKind A) : Type 0 where
  pub starts : (s : Sign) → kind.Begins s ⊎ (kind.Begins s → ⊥)
  pub begins : (bytes : List ℕ) (at : ℕ) (old new : Names_data) (part : A) (until : ℕ) → kind.Spells bytes at old new part until → BeginsAt kind bytes at
  pub role : (bytes : List ℕ) (at : ℕ) (old new : Names_data) (part : A) (until : ℕ) → kind.Spells bytes at old new part until → RoleStands bytes at old (kind.role_of part)
  pub roles : (bytes : List ℕ) (at : ℕ) (old new : Names_data) (part : A) (until : ℕ) → kind.Spells bytes at old new part until → new.roles ≡ old.roles
  pub labels : (bytes : List ℕ) (at : ℕ) (old new : Names_data) (part : A) (until : ℕ) → kind.Spells bytes at old new part until → length old.labels ≤ length new.labels
  pub bounded : (bytes : List ℕ) (at : ℕ) (old new : Names_data) (part : A) (until : ℕ) → length old.labels ≤ MOST_LABELS → kind.Spells bytes at old new part until → length new.labels ≤ MOST_LABELS
  pub within : (bytes : List ℕ) (at : ℕ) (old new : Names_data) (part : A) (until : ℕ) → at ≤ length bytes → kind.Spells bytes at old new part until → until ≤ length bytes
  pub one : (bytes : List ℕ) (at : ℕ) (old new other : Names_data) (part another : A) (until stop : ℕ) → kind.Spells bytes at old new part until → kind.Spells bytes at old other another stop
      → (new ≡ other) × (part ≡ another) × (until ≡ stop)
  pub one_fault : (bytes : List ℕ) (at : ℕ) (old : Names_data) (j k : TextKind) (n i : ℕ) → length old.labels ≤ MOST_LABELS → kind.Fails old bytes at j n → kind.Fails old bytes at k i
      → (j ≡ k) × (n ≡ i)
  pub not_both : (bytes : List ℕ) (at : ℕ) (old new : Names_data) (part : A) (until : ℕ) (k : TextKind) (offset : ℕ) → length old.labels ≤ MOST_LABELS → kind.Spells bytes at old new part until
      → kind.Fails old bytes at k offset → ⊥
  pub either : (bytes : List ℕ) (at : ℕ) (old : Names_data) → length old.labels ≤ MOST_LABELS → at ≤ length bytes → SpeltOrFaulty kind old bytes at

-- ---- one outcome

abbrev fault_of : {A : Type 0} → TextKind → ℕ → Result (PartsRead A) TextFault
fault_of k at = Err (record { kind = k; at = at })

same_fault : {A : Type 0} (k j : TextKind) (a b : ℕ) → k ≡ j → a ≡ b → fault_of {A = A} k a ≡ fault_of {A = A} j b
same_fault {A} k j a b e f = ap (λ z. fault_of {A = A} z a) e ∙ ap (λ z. fault_of {A = A} j z) f

moved : {A : Type 0} (kind : PartKind A) (bytes : List ℕ) (next stop : ℕ) (new other : Names_data) (parts : List (Option A)) (part another : A) (y : Result (PartsRead A) TextFault) → new ≡ other
    → part ≡ another → next ≡ stop
    → GoesOn kind bytes stop other (parts_with kind parts another) y → GoesOn kind bytes next new (parts_with kind parts part) y
moved kind bytes next stop new other parts part another y e f g h =
    subst (λ (n : ℕ). GoesOn kind bytes n new (parts_with kind parts part) y) (sym g)
    (subst (λ m. GoesOn kind bytes stop new (parts_with kind parts m) y) (sym f)
    (subst (λ (n : Names_data). GoesOn kind bytes stop n (parts_with kind parts another) y) (sym e) h))

pub one_row : {A : Type 0} (kind : PartKind A) (i : IsKind kind) (bytes : List ℕ) (at : ℕ) (names : Names_data) (parts : List (Option A)) (x y : Result (PartsRead A) TextFault)
    → length names.labels ≤ MOST_LABELS
    → GoesOn kind bytes at names parts x → GoesOn kind bytes at names parts y → x ≡ y
one_row kind i bytes at names parts x y few (Stops a n m e) (Stops b o l f) = refl
one_row kind i bytes at names parts x y few (Stops a n m e) (Repeats b c o l f t) = absurd (e f)
one_row kind i bytes at names parts x y few (Stops a n m e) (Fails b c o l k f t h) = absurd (e f)
one_row kind i bytes at names parts x y few (Stops a n m e) (Adds b c o d l q w f t s g) = absurd (e f)
one_row kind i bytes at names parts x y few (Repeats a u n m e z) (Stops b o l f) = absurd (f e)
one_row kind i bytes at names parts x y few (Repeats a u n m e z) (Repeats b c o l f t) = same_fault fault.NameTwice fault.NameTwice u c refl (same_twice bytes names parts at u c z t)
one_row kind i bytes at names parts x y few (Repeats a u n m e z) (Fails b c o l k f t h) = absurd (t u z)
one_row kind i bytes at names parts x y few (Repeats a u n m e z) (Adds b c o d l q w f t s g) = absurd (t u z)
one_row kind i bytes at names parts x y few (Fails a u n m j e z r) (Stops b o l f) = absurd (f e)
one_row kind i bytes at names parts x y few (Fails a u n m j e z r) (Repeats b c o l f t) = absurd (z c t)
one_row kind i bytes at names parts x y few (Fails a u n m j e z r) (Fails b c o l k f t h) = let same = i.one_fault bytes at names j k u c few r h in same_fault j k u c same.0 same.1
one_row kind i bytes at names parts x y few (Fails a u n m j e z r) (Adds b c o d l q w f t s g) = absurd (i.not_both bytes at names d q c j u few s r)
one_row kind i bytes at names parts x y few (Adds a u n v m r w e z h j) (Stops b o l f) = absurd (f e)
one_row kind i bytes at names parts x y few (Adds a u n v m r w e z h j) (Repeats b c o l f t) = absurd (z c t)
one_row kind i bytes at names parts x y few (Adds a u n v m r w e z h j) (Fails b c o l k f t g) = absurd (i.not_both bytes at names v r u k c few h g)
one_row kind i bytes at names parts x y few (Adds a u n v m r w e z h j) (Adds b c o d l q p f t s g) =
    let same = i.one bytes at names v d r q u c h s in
    one_row kind i bytes u v (parts_with kind parts r) x y (i.bounded bytes at names v r u few h) j (moved kind bytes u c v d parts r q y same.0 same.1 same.2 g)

-- ---- some outcome

pub record SomeRow {A : Type 0} (kind : PartKind A) (bytes : List ℕ) (at : ℕ) (names : Names_data) (parts : List (Option A)) : Type 0 where
  pub row : Result (PartsRead A) TextFault
  pub goes_on : GoesOn kind bytes at names parts row

abbrev Again : {A : Type 0} → PartKind A → List ℕ → ℕ → Type 0
Again {A} kind bytes n =
    (at : ℕ) (names : Names_data) (parts : List (Option A)) → free_in parts < n → at ≤ length bytes → length parts ≡ length names.roles → length names.labels ≤ MOST_LABELS
    → SomeRow kind bytes at names parts

by_role : {A : Type 0} (kind : PartKind A) (i : IsKind kind) (n : ℕ) (bytes : List ℕ) (at : ℕ) (names : Names_data) (parts : List (Option A)) → Again kind bytes n → free_in parts < suc n
    → at ≤ length bytes → length parts ≡ length names.roles → length names.labels ≤ MOST_LABELS
    → BeginsAt kind bytes at → (o : Option ℕ) → twice_of names parts (second_of bytes at) ≡ o → SomeRow kind bytes at names parts
by_role kind i n bytes at names parts again lt le size few word (Some second) e =
    record { row = fault_of fault.NameTwice second; goes_on = Repeats at second names parts word (twice_is bytes names parts at second e) }
by_role {A} kind i n bytes at names parts again lt le size few word None e = elim (i.either bytes at names few le) [
  | inl h ↦
      let never = none_twice bytes names parts at e in
      let free = slot_free bytes at names parts (kind.role_of h.1) (i.role bytes at names h.0 h.1 h.2 h.3) size never in
      let less : free_in (parts_with kind parts h.1) < free_in parts = free_less parts (kind.role_of h.1).0 h.1 free in
      let same : h.0.roles ≡ names.roles = i.roles bytes at names h.0 h.1 h.2 h.3 in
      let rest = again h.2 h.0 (parts_with kind parts h.1) (omega (arith, lt, less)) (i.within bytes at names h.0 h.1 h.2 le h.3)
      (set_size parts (kind.role_of h.1).0 (Some h.1) ∙ size ∙ ap length (sym same)) (i.bounded bytes at names h.0 h.1 h.2 few h.3) in
      record { row = rest.row; goes_on = Adds at h.2 names h.0 parts h.1 rest.row word never h.3 rest.goes_on }
  | inr f ↦ record { row = fault_of f.0 f.1; goes_on = Fails at f.1 names parts f.0 word (none_twice bytes names parts at e) f.2 }
]

by_sign : {A : Type 0} (kind : PartKind A) (i : IsKind kind) (n : ℕ) (bytes : List ℕ) (at : ℕ) (names : Names_data) (parts : List (Option A)) → Again kind bytes n → free_in parts < suc n
    → at ≤ length bytes → length parts ≡ length names.roles → length names.labels ≤ MOST_LABELS → SomeRow kind bytes at names parts
by_sign {A} kind i n bytes at names parts again lt le size few = elim (i.starts (next_lexeme bytes at).sign) [
  | inl begins ↦ by_role kind i n bytes at names parts again lt le size few begins (twice_of names parts (second_of bytes at)) refl
  | inr not ↦ record { row = Ok (record { names = names; parts = parts; until = at }); goes_on = Stops at names parts not }
]

some_row_by : {A : Type 0} (kind : PartKind A) (i : IsKind kind) (n : ℕ) (bytes : List ℕ) (at : ℕ) (names : Names_data) (parts : List (Option A)) → free_in parts < n → at ≤ length bytes
    → length parts ≡ length names.roles → length names.labels ≤ MOST_LABELS
    → SomeRow kind bytes at names parts
some_row_by kind i zero bytes at names parts lt le size few = absurd (omega arith)
some_row_by kind i (suc n) bytes at names parts lt le size few =
    by_sign kind i n bytes at names parts (λ a o m l k s f. some_row_by kind i n bytes a o m l k s f) lt le size few

pub some_row : {A : Type 0} (kind : PartKind A) (i : IsKind kind) (bytes : List ℕ) (at : ℕ) (names : Names_data) (parts : List (Option A)) → at ≤ length bytes → length parts ≡ length names.roles
    → length names.labels ≤ MOST_LABELS → SomeRow kind bytes at names parts
some_row kind i bytes at names parts le size few = some_row_by kind i (suc (free_in parts)) bytes at names parts (omega arith) le size few

-- ---- what a row keeps

pub record Keeps {A : Type 0} (kind : PartKind A) (old new : PartsRead A) : Type 0 where
  pub roles : new.names.roles ≡ old.names.roles
  pub labels : length old.names.labels ≤ length new.names.labels
  pub size : length new.parts ≡ length old.parts
  pub in_place : StandInPlace kind.role_of old.parts → StandInPlace kind.role_of new.parts

abbrev pub row_of : {A : Type 0} → Names_data → List (Option A) → ℕ → PartsRead A
row_of names parts at = record { names = names; parts = parts; until = at }

abbrev pub good : {A : Type 0} → PartsRead A → Result (PartsRead A) TextFault
good row = Ok row

pub keeps : {A : Type 0} (kind : PartKind A) (i : IsKind kind) (bytes : List ℕ) (at : ℕ) (names : Names_data) (parts : List (Option A)) (what : Result (PartsRead A) TextFault) (row : PartsRead A)
    → GoesOn kind bytes at names parts what → what ≡ good row
    → Keeps kind (row_of names parts at) row
keeps {A} kind i bytes at names parts what row (Stops a n m e) is =
    let same : row_of names parts at ≡ row = cc in
    subst (Keeps kind (row_of names parts at)) same (record { roles = refl; labels = omega arith; size = refl; in_place = λ h. h })
keeps kind i bytes at names parts what row (Repeats a u n m e z) is = absurd cc
keeps kind i bytes at names parts what row (Fails a u n m j e z r) is = absurd cc
keeps {A} kind i bytes at names parts what row (Adds a next n new m part w e z s g) is =
    let later = keeps kind i bytes next new (parts_with kind parts part) what row g is in
    let l1 = later.labels in
    let l2 = i.labels bytes at names new part next s in
    record {
      roles = later.roles ∙ i.roles bytes at names new part next s;
      labels = omega (arith, l1, l2);
      size = later.size ∙ set_size parts (kind.role_of part).0 (Some part);
      in_place = λ h. later.in_place (set_in_place kind.role_of parts part h);
    }

pub keeps_few : {A : Type 0} (kind : PartKind A) (i : IsKind kind) (bytes : List ℕ) (at : ℕ) (names : Names_data) (parts : List (Option A)) (what : Result (PartsRead A) TextFault) (row : PartsRead A)
    → length names.labels ≤ MOST_LABELS → GoesOn kind bytes at names parts what → what ≡ good row
    → length row.names.labels ≤ MOST_LABELS
keeps_few {A} kind i bytes at names parts what row few (Stops a n m e) is =
    let same : row_of names parts at ≡ row = cc in
    subst (λ (z : PartsRead A). length z.names.labels ≤ MOST_LABELS) same few
keeps_few kind i bytes at names parts what row few (Repeats a u n m e z) is = absurd cc
keeps_few kind i bytes at names parts what row few (Fails a u n m j e z r) is = absurd cc
keeps_few kind i bytes at names parts what row few (Adds a next n new m part w e z s g) is =
    keeps_few kind i bytes next new (parts_with kind parts part) what row (i.bounded bytes at names new part next few s) g is

pub keeps_within : {A : Type 0} (kind : PartKind A) (i : IsKind kind) (bytes : List ℕ) (at : ℕ) (names : Names_data) (parts : List (Option A)) (what : Result (PartsRead A) TextFault)
    (row : PartsRead A)
    → at ≤ length bytes → GoesOn kind bytes at names parts what → what ≡ good row
    → row.until ≤ length bytes
keeps_within {A} kind i bytes at names parts what row le (Stops a n m e) is =
    let same : row_of names parts at ≡ row = cc in
    subst (λ (z : PartsRead A). z.until ≤ length bytes) same le
keeps_within kind i bytes at names parts what row le (Repeats a u n m e z) is = absurd cc
keeps_within kind i bytes at names parts what row le (Fails a u n m j e z r) is = absurd cc
keeps_within kind i bytes at names parts what row le (Adds a next n new m part w e z s g) is =
    keeps_within kind i bytes next new (parts_with kind parts part) what row (i.within bytes at names new part next le s) g is

-- ---- the reader

-- a part that was read stands among the others, and the text goes on behind it
pub added : {A : Type 0} (kind : PartKind A) (i : IsKind kind) (P : A → Type 0) (bytes : List ℕ) (at : ℕ) (names new : Names_data) (parts : List (Option A)) (part : A) (next : ℕ) → AreGood names
    → AreHeld kind.role_of P names.roles parts
    → BeginsAt kind bytes at → twice_of names parts (second_of bytes at) ≡ None → kind.Spells bytes at names new part next → AreReadable new
    → new.roles ≡ names.roles → P part → next ≤ length bytes
    → IsAdded kind P bytes (row_of names parts at) (row_of new (parts_with kind parts part) next)
added kind i P bytes at names new parts part next good held word once spells readable roles has within =
    let never = none_twice bytes names parts at once in
    record {
      back = λ row h. Adds at next names new parts part row word never spells h;
      fewer = free_less parts (kind.role_of part).0 part (slot_free bytes at names parts (kind.role_of part) (i.role bytes at names new part next spells) held.one_each never);
      within = within;
      names = record { readable = readable; two = subst (λ (x : List (List ℕ)). 2 ≤ length x) (sym roles) good.two };
      held = record {
        one_each = set_size parts (kind.role_of part).0 (Some part) ∙ held.one_each ∙ ap length (sym roles);
        in_place = set_in_place kind.role_of parts part held.in_place;
        all = set_all P parts (kind.role_of part).0 part held.all has;
      };
      roles = roles;
    }

pub repeats : {A : Type 0} (kind : PartKind A) (bytes : List ℕ) (at : ℕ) (names : Names_data) (parts : List (Option A)) (second : ℕ) → BeginsAt kind bytes at
    → twice_of names parts (second_of bytes at) ≡ Some second
    → GoesOn kind bytes at names parts (fault_of fault.NameTwice second)
repeats kind bytes at names parts second word e = Repeats at second names parts word (twice_is bytes names parts at second e)

pub fails : {A : Type 0} (kind : PartKind A) (bytes : List ℕ) (at : ℕ) (names : Names_data) (parts : List (Option A)) (e : TextFault) → BeginsAt kind bytes at
    → twice_of names parts (second_of bytes at) ≡ None
    → (e.kind ≡ fault.NoMemory) ⊎ kind.Fails names bytes at e.kind e.at → (e.kind ≡ fault.NoMemory) ⊎ GoesOn kind bytes at names parts (Err e)
fails kind bytes at names parts e word once (inl memory) = inl memory
fails kind bytes at names parts e word once (inr h) = inr (Fails at e.at names parts e.kind word (none_twice bytes names parts at once) h)

pub repeats_by : {A : Type 0} (kind : PartKind A) (bytes : List ℕ) (at : ℕ) (names : Names_data) (parts : List (Option A)) (second : ℕ) → BeginsAt kind bytes at
    → twice_of names parts (second_of bytes at) ≡ Some second
    → (fault.NameTwice ≡ fault.NoMemory) ⊎ GoesOn kind bytes at names parts (fault_of fault.NameTwice second)
repeats_by kind bytes at names parts second word e = inr (repeats kind bytes at names parts second word e)

pub added_by : {A : Type 0} (kind : PartKind A) (i : IsKind kind) (P : A → Type 0) (bytes : List ℕ) (at : ℕ) (names new : Names_data) (parts later : List (Option A)) (part : A) (next : ℕ)
    → later ≡ parts_with kind parts part → AreGood names
    → AreHeld kind.role_of P names.roles parts → BeginsAt kind bytes at → twice_of names parts (second_of bytes at) ≡ None → kind.Spells bytes at names new part next → AreReadable new
    → new.roles ≡ names.roles → P part → next ≤ length bytes → IsAdded kind P bytes (row_of names parts at) (row_of new later next)
added_by {A} kind i P bytes at names new parts later part next e good held word once spells readable roles has within =
    subst (λ (z : List (Option A)). IsAdded kind P bytes (row_of names parts at) (row_of new z next)) (sym e)
    (added kind i P bytes at names new parts part next good held word once spells readable roles has within)

pub held_by : {A : Type 0} (role_of : A → Role) (P : A → Type 0) (roles : List (List ℕ)) (parts : List (Option A)) → parts ≡ no_parts roles → AreHeld role_of P roles parts
held_by {A} role_of P roles parts e = subst (λ (z : List (Option A)). AreHeld role_of P roles z) (sym e) (none_held role_of P roles)

-- the row is done where no part begins any more
pub done : {A : Type 0} (kind : PartKind A) (bytes : List ℕ) (at : ℕ) (names new : Names_data) (none parts : List (Option A)) (until : ℕ) → none ≡ no_parts names.roles
    → LeadsBack kind bytes (row_of names none at) (row_of new parts until)
    → (BeginsAt kind bytes until → ⊥) → GoesOn kind bytes at names (no_parts names.roles) (good (row_of new parts until))
done {A} kind bytes at names new none parts until e back not =
    subst (λ (z : List (Option A)). GoesOn kind bytes at names z (good (row_of new parts until))) e (back (good (row_of new parts until)) (Stops until new parts not))
