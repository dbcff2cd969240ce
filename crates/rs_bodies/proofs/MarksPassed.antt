-- Marks that stand directly behind a token are turns of the reader.
use Rattle.std.proofs.Common.{◌≡◌, ◌∙◌, ℕ, suc, ◌+◌, List, [], ◌∷◌, drop, drop-drop, codes, Some, false, if◌then◌else◌, Ok, refl, sym, ap, subst, arith}
use Rattle.rs_model.specs.declared.graph.Label.{Label}
use Rattle.rs_model.specs.declared.graph.Role.{Role}
use Rattle.rs_model.specs.declared.values.Sort.{Sort}
use Rattle.rs_model.specs.declared.values.Sort.TheVariants as sort
use Rattle.rs_text.specs.declared.messages.MessagePlace.TheVariants as place
use Rattle.rs_text.specs.Lexemes.{Lexeme}
use Rattle.rs_text.specs.Lexing.{front, front_of, length_of_blanks, lexeme_at, next_lexeme}
use Rattle.rs_text.specs.Messages.{feed_sort_word}
use Rattle.rs_text.specs.Readings.{feed_sign}
use Rattle.rs_text.specs.Seen.{sort_named}
use Rattle.rs_text.specs.Signs.{Sign, plain, arrow, colon, dot, comma, open_paren, close_paren}
use Rattle.rs_bodies.specs.declared.dialects.Dialect.{Dialect}
use Rattle.rs_bodies.specs.declared.dialects.Dialect.TheVariants.{Talks}
use Rattle.rs_bodies.specs.declared.reading.Frame.{Frame}
use Rattle.rs_bodies.specs.declared.reading.Link.{Link}
use Rattle.rs_bodies.specs.declared.reading.Link.TheVariants as link
use Rattle.rs_bodies.specs.declared.reading.Mode.{Mode}
use Rattle.rs_bodies.specs.declared.reading.Mode.TheVariants as mode
use Rattle.rs_bodies.specs.Data.{Reader_data}
use Rattle.rs_bodies.specs.Feeding.{behind_body, feeding, in_message, is_read, no_frames}
use Rattle.rs_bodies.specs.Marks.{MarksLead, SortLeads}
use Rattle.rs_bodies.specs.Turns.{Turn, Passes}

-- what stands directly at the offset is the next token
pub next_at : (bytes here : List ℕ) (at : ℕ) → drop at bytes ≡ here → length_of_blanks false here ≡ 0 → next_lexeme bytes at ≡ lexeme_at at (front_of here)
next_at bytes here at e z =
    let none : at + length_of_blanks false (drop at bytes) ≡ at = (let k : length_of_blanks false (drop at bytes) ≡ 0 = ap (length_of_blanks false) e ∙ z in omega arith) in
    ap (λ (n : ℕ). lexeme_at n (front_of (drop n bytes))) none ∙ ap (λ x. lexeme_at at (front_of x)) e

pub not_read : (fs : List Frame) (m : Mode) → behind_body m ≡ false → (if no_frames fs then behind_body m else false) ≡ false
not_read [] m h = h
not_read (f ∷ fs) m h = refl

-- a mark that the mode wants is a turn
mark_turn : (d : Dialect) (bytes here : List ℕ) (at size : ℕ) (t : Sign) (r : Reader_data) (m to : Mode) → drop at bytes ≡ here → length_of_blanks false here ≡ 0 → front_of here ≡ front t size
    → r.mode ≡ m → behind_body m ≡ false → ((n : Lexeme) → feed_sign (feeding d) t at n (record r { mode = m }) ≡ Ok (record r { mode = to })) → Turn (feeding d) bytes at r (at + size) (record r { mode = to })
mark_turn d bytes here at size t r m to e z f same unread fed =
    let k : lexeme_at at (front t size) ≡ next_lexeme bytes at = sym (next_at bytes here at e z ∙ ap (lexeme_at at) f) in
    record {
      token = lexeme_at at (front t size);
      token_is = k;
      unread = subst (λ (x : Mode). is_read (record r { mode = x }) ≡ false) (sym same) (not_read r.frames m unread);
      fed = subst (λ (x : Mode). feed_sign (feeding d) t at (next_lexeme bytes (at + size)) (record r { mode = x }) ≡ Ok (record r { mode = to })) (sym same) (fed (next_lexeme bytes (at + size)));
      until_is = refl;
    }

pub one : (d : Dialect) (bytes : List ℕ) (at until size : ℕ) (r q : Reader_data) → until ≡ at + size → Turn (feeding d) bytes at r (at + size) q → Passes (feeding d) bytes at r until q
one d bytes at until size r q e t = (1, (at + size, q, t, (e, refl)))

-- one turn more in front
further : (d : Dialect) (bytes : List ℕ) (at now until : ℕ) (r q s : Reader_data) → Turn (feeding d) bytes at r now q → Passes (feeding d) bytes now q until s → Passes (feeding d) bytes at r until s
further d bytes at now until r q s t p = (suc p.0, (now, q, t, p.1))

pub comma_first : (d : Dialect) (rest : List ℕ) → MarksLead d mode.FirstComma (44 ∷ rest) mode.FurtherRole 1
comma_first d rest = λ bytes at r e same. one d bytes at (at + 1) 1 r (record r { mode = mode.FurtherRole }) refl
    (mark_turn d bytes (44 ∷ rest) at 1 comma r mode.FirstComma mode.FurtherRole e refl refl same refl (λ n. refl))

pub comma_further : (d : Dialect) (rest : List ℕ) → MarksLead d mode.Line (44 ∷ rest) mode.FurtherRole 1
comma_further d rest = λ bytes at r e same. one d bytes at (at + 1) 1 r (record r { mode = mode.FurtherRole }) refl
    (mark_turn d bytes (44 ∷ rest) at 1 comma r mode.Line mode.FurtherRole e refl refl same refl (λ n. refl))

pub colon_passes : (d : Dialect) (rest : List ℕ) → MarksLead d mode.AtColon (58 ∷ rest) (mode.Body link.Start) 1
colon_passes d rest = λ bytes at r e same. one d bytes at (at + 1) 1 r (record r { mode = mode.Body link.Start }) refl
    (mark_turn d bytes (58 ∷ rest) at 1 colon r mode.AtColon (mode.Body link.Start) e refl refl same refl (λ n. refl))

pub rec_dot_passes : (d : Dialect) (from : Link) (rest : List ℕ) → MarksLead d (mode.RecDot from) (46 ∷ rest) (mode.Body from) 1
rec_dot_passes d from rest = λ bytes at r e same. one d bytes at (at + 1) 1 r (record r { mode = mode.Body from }) refl
    (mark_turn d bytes (46 ∷ rest) at 1 dot r (mode.RecDot from) (mode.Body from) e refl refl same refl (λ n. refl))

pub arrow_passes : (from : Link) (p : Role) (rest : List ℕ) → MarksLead Talks (mode.AtTurn from p) (45 ∷ 62 ∷ rest) (mode.Receiver from p) 2
arrow_passes from p rest = λ bytes at r e same. one Talks bytes at (at + 2) 2 r (record r { mode = mode.Receiver from p }) refl
    (mark_turn Talks bytes (45 ∷ 62 ∷ rest) at 2 arrow r (mode.AtTurn from p) (mode.Receiver from p) e refl refl same refl (λ n. refl))

pub arms_colon_passes : (act : ℕ) (rest : List ℕ) → MarksLead Talks (mode.AtArms act) (58 ∷ rest) (mode.InMessage act place.Label) 1
arms_colon_passes act rest = λ bytes at r e same. one Talks bytes at (at + 1) 1 r (record r { mode = mode.InMessage act place.Label }) refl
    (mark_turn Talks bytes (58 ∷ rest) at 1 colon r (mode.AtArms act) (mode.InMessage act place.Label) e refl refl same refl (λ n. refl))

pub open_paren_passes : (d : Dialect) (act : ℕ) (label : Label) (rest : List ℕ) → MarksLead d (mode.InMessage act (place.Paren label)) (40 ∷ rest) (mode.InMessage act (place.Sort label)) 1
open_paren_passes d act label rest = λ bytes at r e same. one d bytes at (at + 1) 1 r (record r { mode = mode.InMessage act (place.Sort label) }) refl
    (mark_turn d bytes (40 ∷ rest) at 1 open_paren r (mode.InMessage act (place.Paren label)) (mode.InMessage act (place.Sort label)) e refl refl same refl (λ n. refl))

dot_passes : (d : Dialect) (act : ℕ) (label : Label) (s : Sort) (rest : List ℕ) → MarksLead d (mode.ArmDot act label s) (46 ∷ rest) (mode.Body (link.OfArm act label s)) 1
dot_passes d act label s rest = λ bytes at r e same. one d bytes at (at + 1) 1 r (record r { mode = mode.Body (link.OfArm act label s) }) refl
    (mark_turn d bytes (46 ∷ rest) at 1 dot r (mode.ArmDot act label s) (mode.Body (link.OfArm act label s)) e refl refl same refl (λ n. refl))

behind_some : (bytes here : List ℕ) (at size : ℕ) → drop at bytes ≡ here → drop (at + size) bytes ≡ drop size here
behind_some bytes here at size e = sym (drop-drop size at bytes) ∙ ap (drop size) e

-- a token before marks
more : (d : Dialect) (m to behind : Mode) (here : List ℕ) (first size : ℕ) (t : Sign) → length_of_blanks false here ≡ 0 → front_of here ≡ front t first → behind_body m ≡ false
    → ((at : ℕ) (n : Lexeme) (r : Reader_data) → feed_sign (feeding d) t at n (record r { mode = m }) ≡ Ok (record r { mode = to }))
    → MarksLead d to (drop first here) behind size → MarksLead d m here behind (first + size)
more d m to behind here first size t z f unread fed on = λ bytes at r e same.
    let p : Passes (feeding d) bytes (at + first) (record r { mode = to }) (at + first + size) (record r { mode = behind })
    = on bytes (at + first) (record r { mode = to }) (behind_some bytes here at first e) refl in
    let u : at + first + size ≡ at + (first + size) = omega arith in
    further d bytes at (at + first) (at + (first + size)) r (record r { mode = to }) (record r { mode = behind })
    (mark_turn d bytes here at first t r m to e z f same unread (λ n. fed at n r))
    (subst (λ (x : ℕ). Passes (feeding d) bytes (at + first) (record r { mode = to }) x (record r { mode = behind })) u p)

pub close_dot_passes : (d : Dialect) (act : ℕ) (label : Label) (s : Sort) (rest : List ℕ) → MarksLead d (mode.InMessage act (place.Close label s)) (41 ∷ 46 ∷ rest) (mode.Body (link.OfArm act label s)) 2
close_dot_passes d act label s rest =
    more d (mode.InMessage act (place.Close label s)) (mode.ArmDot act label s) (mode.Body (link.OfArm act label s)) (41 ∷ 46 ∷ rest) 1 1 close_paren refl refl refl (λ at n r. refl) (dot_passes d act label s rest)

pub no_sort_leads : (rest : List ℕ) → SortLeads (41 ∷ 46 ∷ rest) sort.Unit 2
no_sort_leads rest = λ d act label.
    more d (mode.InMessage act (place.Sort label)) (mode.ArmDot act label sort.Unit) (mode.Body (link.OfArm act label sort.Unit)) (41 ∷ 46 ∷ rest) 1 1 close_paren refl refl refl (λ at n r. refl)
    (dot_passes d act label sort.Unit rest)

-- the word of a sort, and the marks behind it
sort_leads : (word here rest : List ℕ) (first : ℕ) (s : Sort) → length_of_blanks false here ≡ 0 → front_of here ≡ front (plain word) first → sort_named word ≡ Some s → drop first here ≡ 41 ∷ 46 ∷ rest
    → SortLeads here s (first + 2)
sort_leads word here rest first s z f named e = λ d act label.
    more d (mode.InMessage act (place.Sort label)) (mode.InMessage act (place.Close label s)) (mode.Body (link.OfArm act label s)) here first 2 (plain word) z f refl
    (λ at n r. ap (λ x. in_message act (feed_sort_word x label at r.labels) (record r { mode = mode.InMessage act (place.Sort label) })) named)
    (subst (λ (x : List ℕ). MarksLead d (mode.InMessage act (place.Close label s)) x (mode.Body (link.OfArm act label s)) 2) (sym e) (close_dot_passes d act label s rest))

pub nat_leads : (rest : List ℕ) → SortLeads (110 ∷ 97 ∷ 116 ∷ 41 ∷ 46 ∷ rest) sort.Natural 5
nat_leads rest = sort_leads (codes "nat") (110 ∷ 97 ∷ 116 ∷ 41 ∷ 46 ∷ rest) rest 3 sort.Natural refl refl refl refl

pub int_leads : (rest : List ℕ) → SortLeads (105 ∷ 110 ∷ 116 ∷ 41 ∷ 46 ∷ rest) sort.Whole 5
int_leads rest = sort_leads (codes "int") (105 ∷ 110 ∷ 116 ∷ 41 ∷ 46 ∷ rest) rest 3 sort.Whole refl refl refl refl

pub bool_leads : (rest : List ℕ) → SortLeads (98 ∷ 111 ∷ 111 ∷ 108 ∷ 41 ∷ 46 ∷ rest) sort.Flag 6
bool_leads rest = sort_leads (codes "bool") (98 ∷ 111 ∷ 111 ∷ 108 ∷ 41 ∷ 46 ∷ rest) rest 4 sort.Flag refl refl refl refl

pub list_leads : (rest : List ℕ) → SortLeads (108 ∷ 105 ∷ 115 ∷ 116 ∷ 41 ∷ 46 ∷ rest) sort.Numbers 6
list_leads rest = sort_leads (codes "list") (108 ∷ 105 ∷ 115 ∷ 116 ∷ 41 ∷ 46 ∷ rest) rest 4 sort.Numbers refl refl refl refl

pub bytes_leads : (rest : List ℕ) → SortLeads (98 ∷ 121 ∷ 116 ∷ 101 ∷ 115 ∷ 41 ∷ 46 ∷ rest) sort.Octets 7
bytes_leads rest = sort_leads (codes "bytes") (98 ∷ 121 ∷ 116 ∷ 101 ∷ 115 ∷ 41 ∷ 46 ∷ rest) rest 5 sort.Octets refl refl refl refl

pub parens_pass : (d : Dialect) (act : ℕ) (label : Label) (s : Sort) (rest : List ℕ) (size : ℕ) → SortLeads rest s size
    → MarksLead d (mode.InMessage act (place.Paren label)) (40 ∷ rest) (mode.Body (link.OfArm act label s)) (1 + size)
parens_pass d act label s rest size h =
    more d (mode.InMessage act (place.Paren label)) (mode.InMessage act (place.Sort label)) (mode.Body (link.OfArm act label s)) (40 ∷ rest) 1 size open_paren refl refl refl (λ at n r. refl)
    (h d act label)

pub sort_in : (here bytes : List ℕ) (s : Sort) (size : ℕ) → SortLeads bytes s size → bytes ≡ here → SortLeads here s size
sort_in here bytes s size h e = subst (λ (z : List ℕ). SortLeads z s size) e h

-- ---- as the code needs it: the bytes begin with these marks

pub in_front : (d : Dialect) (m to : Mode) (here marks : List ℕ) (size : ℕ) → MarksLead d m marks to size → marks ≡ here → MarksLead d m here to size
in_front d m to here marks size h e = subst (λ (z : List ℕ). MarksLead d m z to size) e h

pub in_talks : (d : Dialect) (m to : Mode) (here marks : List ℕ) (size : ℕ) → d ≡ Talks → MarksLead Talks m marks to size → marks ≡ here → MarksLead d m here to size
in_talks d m to here marks size t h e = subst (λ (z : List ℕ). MarksLead d m z to size) e (subst (λ (z : Dialect). MarksLead z m marks to size) (sym t) h)
