use Rattle.rs_answers.proofs.refusal_texts.fault_answer.Goals as goal

pub returns-in_ok-what-in-Expected : goal.returns-in_ok-what-in-Expected
returns-in_ok-what-in-Expected c =
    rw c.in-Expected.is (rw c.text.ensures at (rw c.as_bytes.ensures.value at (rw c.in_ok-what-in-Expected.ensures at (rw c.as_slice.ensures at c.text_at_place.ensures))))

pub returns-in-UnknownRole : goal.returns-in-UnknownRole
returns-in-UnknownRole c = rw c.in-UnknownRole.is c.text_at_place-in-UnknownRole.ensures

pub returns-in-UnboundName : goal.returns-in-UnboundName
returns-in-UnboundName c = rw c.in-UnboundName.is c.text_at_place-in-UnboundName.ensures

pub returns-in-NameTwice : goal.returns-in-NameTwice
returns-in-NameTwice c = rw c.in-NameTwice.is c.text_at_place-in-NameTwice.ensures

pub returns-in-NoMemory : goal.returns-in-NoMemory
returns-in-NoMemory c = rw c.in-NoMemory.is c.text_at_place-in-NoMemory.ensures

pub returns-in-Unguarded : goal.returns-in-Unguarded
returns-in-Unguarded c = rw c.in-Unguarded.is c.text_at_place-in-Unguarded.ensures

pub returns-in-BadByte : goal.returns-in-BadByte
returns-in-BadByte c = rw c.in-BadByte.is c.text_at_place-in-BadByte.ensures

pub returns-in-NumberTooLarge : goal.returns-in-NumberTooLarge
returns-in-NumberTooLarge c = rw c.in-NumberTooLarge.is c.text_at_place-in-NumberTooLarge.ensures
