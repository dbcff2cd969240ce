-- The text of a part is written for its tokens.
use Rattle.std.proofs.Common.{◌≡◌, ℕ, ◌+◌, ◌<◌, ◌≤◌, List, [], ◌∷◌, ◌++◌, length, drop, codes, true, false, refl, sym, ap, subst, append-nil, append_assoc, length-append, length-drop, arith}
use Rattle.std.proofs.lemmas.List.Elements.{All-head, All-tail}
use Rattle.std.specs.List.{All, flat_map}
use Rattle.rs_model.specs.Data.{Names_data}
use Rattle.rs_text.specs.Arms.{arm_signs}
use Rattle.rs_text.specs.Shown.{arm_text}
use Rattle.rs_text.specs.Bytes.{is_word_byte, begins}
use Rattle.rs_text.specs.Lexemes.{Lexeme}
use Rattle.rs_text.specs.Lexing.{Lexed, next_lexeme}
use Rattle.rs_text.specs.Signs.{Sign, plain, arrow, bang, question, colon, dot, comma, open_brace, close_brace, finish}
use Rattle.rs_text.specs.Words.{is_role_word}
use Rattle.rs_text.specs.Writing.{IsWritten}
use Rattle.rs_text.proofs.Arms.{arm_written}
use Rattle.rs_text.proofs.Nexts.{exists, are_lexed, lexed_are, end_again}
use Rattle.rs_text.proofs.Written.{nothing_written, joined, before_blank, before_mark, before_word, before_role, word_written, role_written, written_cut}
use Rattle.rs_bodies.specs.declared.dialects.Dialect.{Dialect}
use Rattle.rs_bodies.specs.declared.dialects.Dialect.TheVariants.{Talks, Acts}
use Rattle.rs_bodies.specs.declared.dialects.Mark.TheVariants as mark
use Rattle.rs_bodies.specs.Dialects.{BehindRole, sends_to, with_mark, turn_signs, lone_signs}
use Rattle.rs_bodies.specs.Openings.{Opening, of_roles, of_role, opening_signs, line_signs, further_signs}
use Rattle.rs_bodies.specs.Spells.{Tree, tree_signs, Fits, SpellsBy, names_of}
use Rattle.rs_bodies.specs.Texts.{turn_text, lone_text, body_text, branches_text, names_text, opening_text, part_text}
use Rattle.rs_bodies.specs.Trees.{Body, ends, again, binds, acts, offers, Branches, one, more, body_signs, branch_signs, ends_by_name, ends_a_name}
use Rattle.rs_bodies.specs.Writable.{IsWordInTurn, AreWordsIn, AreWordsInArms, AreWordsInOpening, AreWords}

-- ---- bodies

-- a head, where no word goes on behind it
head_written : (dia : Dialect) (p : List ℕ) (t : BehindRole dia) (signs : List Sign) (text behind : List ℕ) → is_role_word p ≡ true → IsWordInTurn dia t → begins is_word_byte (text ++ behind) ≡ false
    → IsWritten signs text behind → IsWritten (plain p ∷ (turn_signs dia t ++ signs)) (p ++ (turn_text dia t ++ text)) behind
head_written Talks p (sends_to r) signs text behind hp hr whole w =
    before_role p (arrow ∷ plain r ∷ signs) (codes "->" ++ (r ++ text)) behind hp refl
    (before_mark arrow (plain r ∷ signs) (codes "->") (r ++ text) behind refl refl (before_role r signs text behind hr whole w))
head_written Acts p (with_mark mark.Puts) signs text behind hp hr whole w = before_role p (bang ∷ signs) (codes "!" ++ text) behind hp refl (before_mark bang signs (codes "!") text behind refl refl w)
head_written Acts p (with_mark mark.Takes) signs text behind hp hr whole w =
    before_role p (question ∷ signs) (codes "?" ++ text) behind hp refl (before_mark question signs (codes "?") text behind refl refl w)

-- a head with a single arm, which begins by a word
single_written : (dia : Dialect) (p : List ℕ) (t : BehindRole dia) (signs : List Sign) (text behind : List ℕ) → is_role_word p ≡ true → IsWordInTurn dia t → IsWritten signs text behind
    → IsWritten (plain p ∷ (turn_signs dia t ++ (lone_signs dia ++ signs))) (p ++ (turn_text dia t ++ (lone_text dia ++ text))) behind
single_written Talks p (sends_to r) signs text behind hp hr w =
    head_written Talks p (sends_to r) (colon ∷ signs) (codes ":" ++ text) behind hp hr refl (before_mark colon signs (codes ":") text behind refl refl w)
single_written Acts p (with_mark mark.Puts) signs text behind hp hr w = before_role p (bang ∷ signs) (codes "!" ++ text) behind hp refl (before_mark bang signs (codes "!") text behind refl refl w)
single_written Acts p (with_mark mark.Takes) signs text behind hp hr w =
    before_role p (question ∷ signs) (codes "?" ++ text) behind hp refl (before_mark question signs (codes "?") text behind refl refl w)

mutual
  pub body_written : (dia : Dialect) (b : Body dia) (behind : List ℕ) → AreWordsIn dia b → begins is_word_byte behind ≡ false → IsWritten (body_signs dia b) (body_text dia b) behind
  body_written dia ends behind h whole = word_written (codes "end") behind refl whole
  body_written dia (again name) behind h whole = role_written name behind h whole
  body_written dia (binds name body) behind h whole =
      before_word (codes "rec") (plain name ∷ dot ∷ body_signs dia body) (codes " " ++ (name ++ (codes ". " ++ body_text dia body))) behind refl refl
      (before_blank 32 (plain name ∷ dot ∷ body_signs dia body) (name ++ (codes ". " ++ body_text dia body)) behind refl
      (before_role name (dot ∷ body_signs dia body) (codes ". " ++ body_text dia body) behind h.0 refl
      (before_mark dot (body_signs dia body) (codes ".") (codes " " ++ body_text dia body) behind refl refl
      (before_blank 32 (body_signs dia body) (body_text dia body) behind refl (body_written dia body behind h.1 whole)))))
  body_written dia (acts p t label sort body) behind h whole =
      single_written dia p t (arm_signs label sort ++ body_signs dia body) (arm_text label sort ++ body_text dia body) behind h.0 h.1
      (joined (arm_signs label sort) (body_signs dia body) (arm_text label sort) (body_text dia body) behind (arm_written label sort (body_text dia body ++ behind) h.2)
      (body_written dia body behind h.3 whole))
  body_written dia (offers p t arms) behind h whole =
      head_written dia p t (open_brace ∷ (branch_signs dia arms ++ close_brace ∷ [])) (codes "{" ++ (branches_text dia arms ++ codes "}")) behind h.0 h.1 refl
      (before_mark open_brace (branch_signs dia arms ++ close_brace ∷ []) (codes "{") (branches_text dia arms ++ codes "}") behind refl refl
      (joined (branch_signs dia arms) (close_brace ∷ []) (branches_text dia arms) (codes "}") behind (branches_written dia arms (codes "}" ++ behind) h.2 refl)
      (before_mark close_brace [] (codes "}") [] behind refl refl (nothing_written behind))))

  branches_written : (dia : Dialect) (arms : Branches dia) (behind : List ℕ) → AreWordsInArms dia arms → begins is_word_byte behind ≡ false
      → IsWritten (branch_signs dia arms) (branches_text dia arms) behind
  branches_written dia (one label sort body) behind h whole =
      joined (arm_signs label sort) (body_signs dia body) (arm_text label sort) (body_text dia body) behind (arm_written label sort (body_text dia body ++ behind) h.0)
      (body_written dia body behind h.1 whole)
  branches_written dia (more label sort body arms) behind h whole =
      joined (arm_signs label sort) (body_signs dia body ++ comma ∷ branch_signs dia arms) (arm_text label sort) (body_text dia body ++ (codes ", " ++ branches_text dia arms)) behind
      (arm_written label sort ((body_text dia body ++ (codes ", " ++ branches_text dia arms)) ++ behind) h.0)
      (joined (body_signs dia body) (comma ∷ branch_signs dia arms) (body_text dia body) (codes ", " ++ branches_text dia arms) behind
      (body_written dia body ((codes ", " ++ branches_text dia arms) ++ behind) h.1 refl)
      (before_mark comma (branch_signs dia arms) (codes ",") (codes " " ++ branches_text dia arms) behind refl refl
      (before_blank 32 (branch_signs dia arms) (branches_text dia arms) behind refl (branches_written dia arms behind h.2 whole))))

-- ---- openings

names_written : (names : List (List ℕ)) (name behind : List ℕ) → All (λ x. is_role_word x ≡ true) (name ∷ names) → begins is_word_byte behind ≡ false
    → IsWritten (plain name ∷ flat_map further_signs names) (names_text (name ∷ names)) behind
names_written [] name behind h whole = role_written name behind (All-head (λ x. is_role_word x ≡ true) name [] h) whole
names_written (other ∷ names) name behind h whole =
    before_role name (comma ∷ (plain other ∷ flat_map further_signs names)) (codes ", " ++ names_text (other ∷ names)) behind (All-head (λ x. is_role_word x ≡ true) name (other ∷ names) h) refl
    (before_mark comma (plain other ∷ flat_map further_signs names) (codes ",") (codes " " ++ names_text (other ∷ names)) behind refl refl
    (before_blank 32 (plain other ∷ flat_map further_signs names) (names_text (other ∷ names)) behind refl
    (names_written names other behind (All-tail (λ x. is_role_word x ≡ true) name (other ∷ names) h) whole)))

line_written : (f s : List ℕ) (xs : List (List ℕ)) (signs : List Sign) (text behind : List ℕ) → All (λ x. is_role_word x ≡ true) (f ∷ s ∷ xs) → IsWritten signs text behind
    → IsWritten (plain (codes "roles") ∷ plain f ∷ comma ∷ plain s ∷ (flat_map further_signs xs ++ plain (codes "protocol") ∷ signs))
    (codes "roles " ++ (names_text (f ∷ s ∷ xs) ++ (codes "\nprotocol " ++ text))) behind
line_written f s xs signs text behind h w =
    let line = codes "\nprotocol " ++ text in
    let protocol : IsWritten (plain (codes "protocol") ∷ signs) line behind =
    before_blank 10 (plain (codes "protocol") ∷ signs) (codes "protocol " ++ text) behind refl
    (before_role (codes "protocol") signs (codes " " ++ text) behind refl refl (before_blank 32 signs text behind refl w)) in
    let names : IsWritten (plain f ∷ flat_map further_signs (s ∷ xs)) (names_text (f ∷ s ∷ xs)) (line ++ behind) = names_written (s ∷ xs) f (line ++ behind) h refl in
    before_role (codes "roles") (plain f ∷ comma ∷ plain s ∷ (flat_map further_signs xs ++ plain (codes "protocol") ∷ signs)) (codes " " ++ (names_text (f ∷ s ∷ xs) ++ line)) behind refl refl
    (before_blank 32 (plain f ∷ comma ∷ plain s ∷ (flat_map further_signs xs ++ plain (codes "protocol") ∷ signs)) (names_text (f ∷ s ∷ xs) ++ line) behind refl
    (joined (plain f ∷ flat_map further_signs (s ∷ xs)) (plain (codes "protocol") ∷ signs) (names_text (f ∷ s ∷ xs)) line behind names protocol))

opening_written : (dia : Dialect) (o : Opening dia) (signs : List Sign) (text behind : List ℕ) → AreWordsInOpening dia o → IsWritten signs text behind
    → IsWritten (opening_signs dia o ++ signs) (opening_text dia o text) behind
opening_written Talks (of_roles f s xs) signs text behind h w =
    subst (λ z. IsWritten z (opening_text Talks (of_roles f s xs) text) behind) (sym (append_assoc (line_signs f (s ∷ xs)) (plain (codes "protocol") ∷ []) signs))
    (line_written f s xs signs text behind h w)
opening_written Acts (of_role r) signs text behind h w =
    before_role (codes "machine") (plain r ∷ colon ∷ signs) (codes " " ++ (r ++ (codes ": " ++ text))) behind refl refl
    (before_blank 32 (plain r ∷ colon ∷ signs) (r ++ (codes ": " ++ text)) behind refl
    (before_role r (colon ∷ signs) (codes ": " ++ text) behind h refl
    (before_mark colon signs (codes ":") (codes " " ++ text) behind refl refl (before_blank 32 signs text behind refl w))))

pub part_written : (dia : Dialect) (t : Tree dia) (behind : List ℕ) → AreWords dia t → IsWritten (tree_signs dia t) (part_text dia t) behind
part_written dia t behind h =
    let body : IsWritten (body_signs dia t.body) (body_text dia t.body ++ codes "\n") behind =
    subst (λ signs. IsWritten signs (body_text dia t.body ++ codes "\n") behind) (append-nil (body_signs dia t.body))
    (joined (body_signs dia t.body) [] (body_text dia t.body) (codes "\n") behind (body_written dia t.body (codes "\n" ++ behind) h.body refl)
    (before_blank 10 [] [] behind refl (nothing_written behind))) in
    opening_written dia t.opening (body_signs dia t.body) (body_text dia t.body ++ codes "\n") behind h.opening body

-- ---- and so it spells what it means

text_some : (dia : Dialect) (o : Opening dia) (text : List ℕ) → 0 < length (opening_text dia o text)
text_some Talks (of_roles f s xs) text = omega arith
text_some Acts (of_role r) text = omega arith

spells_with : {X : Type 0} (dia : Dialect) (meaning : Names_data → Tree dia → X) (ls : List Lexeme) (bytes : List ℕ) (at : ℕ) (old : Names_data) (t : Tree dia) (rest : List ℕ) → AreWords dia t
    → Fits dia old t → drop at bytes ≡ part_text dia t ++ rest
    → (ends_by_name dia t.body ≡ true → ends_a_name dia (next_lexeme bytes (at + length (part_text dia t))).sign ≡ true) → Lexed bytes (at + length (part_text dia t)) ls
    → SpellsBy dia meaning bytes at old (names_of dia old t) (meaning old t) (next_lexeme bytes (at + length (part_text dia t))).from
spells_with dia meaning [] bytes at old t rest words fits parts settled lexed = absurd lexed
spells_with dia meaning (l ∷ ls) bytes at old t rest words fits parts settled lexed =
    let c = written_cut bytes at (tree_signs dia t) (part_text dia t) rest (l ∷ ls) parts (part_written dia t rest words) lexed in
    record {
      tree = t;
      lexemes = c.cut;
      behind = l;
      others = ls;
      tokens = lexed_are bytes (c.cut ++ l ∷ ls) at c.lexed;
      spelt = c.signs_are;
      settled = λ e. rw lexed.0 (settled e);
      fits = fits;
      names_are = refl;
      meaning_is = refl;
      goes_on = ap (λ (x : Lexeme). x.from) (sym lexed.0);
    }

reaches : (dia : Dialect) (bytes : List ℕ) (at : ℕ) (t : Tree dia) (rest : List ℕ) → drop at bytes ≡ part_text dia t ++ rest → at + length (part_text dia t) ≤ length bytes
reaches dia bytes at t rest parts =
    let size : length (drop at bytes) ≡ length (part_text dia t) + length rest = rw parts (length-append (part_text dia t) rest) in
    let all = length-drop at bytes in
    let some : 0 < length (part_text dia t) = text_some dia t.opening (body_text dia t.body ++ codes "\n") in
    omega arith

pub part_spelt : {X : Type 0} (dia : Dialect) (meaning : Names_data → Tree dia → X) (bytes : List ℕ) (at : ℕ) (old : Names_data) (t : Tree dia) (rest : List ℕ) → AreWords dia t → Fits dia old t
    → drop at bytes ≡ part_text dia t ++ rest
    → (ends_by_name dia t.body ≡ true → ends_a_name dia (next_lexeme bytes (at + length (part_text dia t))).sign ≡ true)
    → SpellsBy dia meaning bytes at old (names_of dia old t) (meaning old t) (next_lexeme bytes (at + length (part_text dia t))).from
part_spelt dia meaning bytes at old t rest words fits parts settled =
    let e = exists bytes (at + length (part_text dia t)) (reaches dia bytes at t rest parts) in
    spells_with dia meaning e.0 bytes at old t rest words fits parts settled (are_lexed bytes e.0 (at + length (part_text dia t)) e.1)

finish_ends : (dia : Dialect) → ends_a_name dia finish ≡ true
finish_ends Talks = refl
finish_ends Acts = refl

pub lone_part_spelt : {X : Type 0} (dia : Dialect) (meaning : Names_data → Tree dia → X) (old : Names_data) (t : Tree dia) → AreWords dia t → Fits dia old t
    → SpellsBy dia meaning (part_text dia t) 0 old (names_of dia old t) (meaning old t) (length (part_text dia t))
lone_part_spelt dia meaning old t words fits =
    let none : 0 + length (part_text dia t) ≡ length (part_text dia t) = omega arith in
    let stands : next_lexeme (part_text dia t) (0 + length (part_text dia t)) ≡ record { sign = finish; from = length (part_text dia t); until = length (part_text dia t) }
    = rw none (end_again (part_text dia t)) in
    subst (λ (n : ℕ). SpellsBy dia meaning (part_text dia t) 0 old (names_of dia old t) (meaning old t) n) (ap (λ (x : Lexeme). x.from) stands)
    (part_spelt dia meaning (part_text dia t) 0 old t [] words fits (sym (append-nil (part_text dia t))) (λ _. rw (ap (λ (x : Lexeme). ends_a_name dia x.sign) stands) (finish_ends dia)))
