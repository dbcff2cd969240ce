use Rattle.std.proofs.Common.{[]}
use Rattle.rs_rings.specs.Rule.{machines_in_key}
use Rattle.rs_rings.proofs.tables.RingTable.put_to.Given as goal

abbrev pub ghosts-put_as : goal.ghosts-put_as
ghosts-put_as a =
    record {
      call = record {
        roles = a.self.now.layout.roles;
        capacity = a.self.now.layout.capacity;
        sender = a.sender.0;
        receiver = a.receiver.0;
        next = a.next;
        arms = [];
        machines = machines_in_key a.self.now.board.shared.key;
      };
    }
