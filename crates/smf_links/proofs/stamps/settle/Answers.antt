use Rattle.std.proofs.Common.{◌+◌, ◌<◌, get_or, length, arith}
use Rattle.std.proofs.lemmas.List.{get_or_default}
use Rattle.std.specs.Vec.{vec_capacity}
use Rattle.smf_links.specs.Stamps.{citing_at, drops, gains}
use Rattle.smf_links.proofs.Reach.{spread_on}
use Rattle.smf_links.proofs.Steps.{drops_room, gains_room, loosens_on, short, spreads_on, work_grows}
use Rattle.smf_links.proofs.stamps.settle.Goals as goal

pub loosen-requires-clause-room : goal.loosen-requires-clause-room
loosen-requires-clause-room c = λ d.
    let room = drops_room c.args.nodes.now c.args.citing.now c.args.base
    (vec_capacity c.args.work.now) c.loosening.stamps c.loosening.work.items c.loosening.at
    (get_or c.loosening.work.items c.loosening.at 0) c.loosening.invariant.loose in
    let more = c.loosening.invariant.room in
    omega arith

pub loosening-preserved : goal.loosening-preserved
loosening-preserved c =
    let lt : c.loosening.at < length c.loosening.work.items = omega arith in
    record {
      loose =
          loosens_on c.args.nodes.now c.args.citing.now c.args.base (vec_capacity c.args.work.now)
          (vec_capacity c.args.work.now) c.loosening.stamps c.loosening.work.items
          c.loosen.new.stamps c.loosen.new.work.items c.loosening.at
          (get_or c.loosening.work.items c.loosening.at 0) lt
          (get_or_default c.loosening.work.items c.loosening.at 0
          (get_or c.loosening.work.items c.loosening.at 0) lt)
          (omega arith) c.loosen.ensures.stamps c.loosen.ensures.work
          c.loosening.invariant.loose;
      spread =
          spread_on c.args.nodes.now c.args.citing.now c.args.stamps.now c.args.work.now.items c.loosening.stamps
          c.loosening.work.items c.loosen.new.stamps c.loosen.new.work.items
          c.loosening.at (get_or c.loosening.work.items c.loosening.at 0) 0
          (drops c.args.nodes.now c.loosening.stamps (get_or c.loosening.work.items c.loosening.at 0)) lt
          (get_or_default c.loosening.work.items c.loosening.at 0
          (get_or c.loosening.work.items c.loosening.at 0) lt) c.loosen.ensures.stamps
          c.loosen.ensures.work c.loosening.invariant.spread;
      room = omega (arith, c.loosening.invariant.room, c.loosen.ensures.capacity);
      tallied = c.loosen.ensures.tallied;
    }

pub spread-requires-clause-room : goal.spread-requires-clause-room
spread-requires-clause-room c = λ g.
    let room = gains_room c.args.nodes.now c.args.citing.now (c.args.base + c.spreading.done)
    (vec_capacity c.args.work.now) (c.args.base + c.spreading.done) c.spreading.stamps c.spreading.work.items
    c.spreading.done (get_or c.spreading.work.items c.spreading.done 0) c.spreading.invariant.given g in
    let more = c.spreading.invariant.room in
    omega arith

pub spreading-smaller : goal.spreading-smaller
spreading-smaller c =
    let lt : c.spreading.done < length c.spreading.work.items = omega arith in
    let below = short c.args.nodes.now c.args.citing.now (c.args.base + c.spreading.done)
    (vec_capacity c.args.work.now) c.spreading.stamps c.spreading.work.items c.spreading.done
    c.spreading.invariant.given in
    omega arith

pub spreading-preserved : goal.spreading-preserved
spreading-preserved c =
    let lt : c.spreading.done < length c.spreading.work.items = omega arith in
    record {
      given =
          spreads_on c.args.nodes.now c.args.citing.now c.args.base (vec_capacity c.args.work.now)
          (vec_capacity c.args.work.now) c.spreading.stamps c.spreading.work.items
          c.spread.new.stamps c.spread.new.work.items c.spreading.done
          (get_or c.spreading.work.items c.spreading.done 0) c.requires.base.0 lt
          (get_or_default c.spreading.work.items c.spreading.done 0
          (get_or c.spreading.work.items c.spreading.done 0) lt) (omega arith) c.spread.ensures.stamps
          c.spread.ensures.work c.spreading.invariant.given;
      within =
          let more = work_grows
          (gains c.args.nodes.now c.spreading.stamps (c.args.base + c.spreading.done)
          (get_or c.spreading.work.items c.spreading.done 0)) (c.spreading.done + 1)
          (citing_at c.args.citing.now (get_or c.spreading.work.items c.spreading.done 0)) c.spreading.work.items
          c.spread.new.work.items c.spread.ensures.work in
          omega arith;
      spread =
          spread_on c.args.nodes.now c.args.citing.now c.args.stamps.now c.args.work.now.items c.spreading.stamps
          c.spreading.work.items c.spread.new.stamps c.spread.new.work.items
          c.spreading.done (get_or c.spreading.work.items c.spreading.done 0) (c.args.base + c.spreading.done)
          (gains c.args.nodes.now c.spreading.stamps (c.args.base + c.spreading.done)
          (get_or c.spreading.work.items c.spreading.done 0)) lt
          (get_or_default c.spreading.work.items c.spreading.done 0
          (get_or c.spreading.work.items c.spreading.done 0) lt)
          c.spread.ensures.stamps c.spread.ensures.work c.spreading.invariant.spread;
      room = omega (arith, c.spreading.invariant.room, c.spread.ensures.capacity);
      tallied = c.spread.ensures.tallied;
    }

pub returns-clause-low : goal.returns-clause-low
returns-clause-low c = λ a.
    let low = c.spreading.invariant.given.low a in
    let within = c.spreading.invariant.within in
    omega arith
