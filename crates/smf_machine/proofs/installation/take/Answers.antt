use Rattle.std.proofs.Common.{refl}
use Rattle.smf_machine.proofs.Linked.{history_same, linked_made, linked_same}
use Rattle.smf_machine.proofs.Worlds.{done_is, on_err, same_world}
use Rattle.smf_machine.proofs.installation.take.Goals as goal

pub returns-in_err-make_room-clause-err : goal.returns-in_err-make_room-clause-err
returns-in_err-make_room-clause-err g c = on_err _ (same_world _ _ _ _ refl c.make_room.ensures.same)

pub returns-in_err-commit-clause-err : goal.returns-in_err-commit-clause-err
returns-in_err-commit-clause-err g c =
    on_err _ (same_world _ _ _ _ c.in_err-commit.ensures.err c.make_room.ensures.same)

pub returns-clause-ok : goal.returns-clause-ok
returns-clause-ok g c = (
  done_is _ _ _ _ _ c.args.work c.make_room.ensures.same c.in_ok-commit.ensures.ok c.install.ensures
      c.requires.can.command c.requires.can.patches,
  refl,
)

pub returns-clause-linked : goal.returns-clause-linked
returns-clause-linked g c =
    linked_made _ _ _ _ _ _ _ c.args.work c.requires.linked c.make_room.ensures.same c.in_ok-commit.ensures.ok
    c.in_ok-commit.ensures.recent c.install.ensures c.requires.can.command c.requires.can.of_command

pub returns-in_err-make_room-clause-linked : goal.returns-in_err-make_room-clause-linked
returns-in_err-make_room-clause-linked g c =
    linked_same c.args.repository.now.held c.args.repository.now.held c.args.repository.now.recent
    c.args.repository.now.recent c.args.parts.now c.make_room.new.parts c.requires.linked refl refl
    (history_same c.args.parts.now c.make_room.new.parts c.make_room.ensures.same)

pub returns-in_err-commit-clause-linked : goal.returns-in_err-commit-clause-linked
returns-in_err-commit-clause-linked g c =
    linked_same c.args.repository.now.held c.commit.new.self.held c.args.repository.now.recent
    c.commit.new.self.recent c.args.parts.now c.make_room.new.parts c.requires.linked c.in_err-commit.ensures.err
    c.in_err-commit.ensures.lists (history_same c.args.parts.now c.make_room.new.parts c.make_room.ensures.same)
