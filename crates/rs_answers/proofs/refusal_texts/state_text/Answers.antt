use Rattle.rs_answers.proofs.refusal_texts.state_text.Goals as goal

pub returns-in-TwiceLabel : goal.returns-in-TwiceLabel
returns-in-TwiceLabel c = rw c.in-TwiceLabel.is (rw c.from.ensures at (rw c.label_name.ensures at c.text_of.ensures))

pub returns-in-SelfPeer : goal.returns-in-SelfPeer
returns-in-SelfPeer c = rw c.in-SelfPeer.is (rw c.from-in-SelfPeer.ensures at c.text_of-in-SelfPeer.ensures)
