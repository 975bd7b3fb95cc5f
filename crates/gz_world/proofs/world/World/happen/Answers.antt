use Rattle.std.proofs.Common.{◌≡◌, None, Some, sym, subst, map, refl}
use Rattle.gz_world.specs.States.{numbered, request_of}
use Rattle.gz_world.specs.Bridge.{state_of}
use Rattle.gz_world.specs.Refusals.{refusal_of}
use Rattle.gz_world.specs.Told.{ActsBy, StaysBy}
use Rattle.gz_world.specs.Turns.{IsSameWorld, Began, WasHanded, WasGivenUp}
use Rattle.gz_world.specs.Deliveries.{IsSameTold, IsCountedFor, LeavesSites, LeavesClients, LeavesAll, WasDelivered, WasOpened}
use Rattle.gz_world.specs.declared.events.Event.TheVariants as events
use Rattle.gz_world.proofs.Idle.{open_idle, begin_idle, deliver_idle, hand_idle, give_up_idle, crash_idle, is_no_delivery}
use Rattle.gz_world.proofs.Results.{if_ok_map, if_ok_any, on_err_map}
use Rattle.gz_world.proofs.Faults.{IsCountedAfter, delivery_counts, delivery_reaches, delivery_leaves, other_counts, other_leaves}
use Rattle.gz_world.proofs.Performing.{begin_acts, hand_acts, give_up_acts, deliver_acts, open_acts, crash_acts, stays_told, stays_same, both_keep, there_by, open_by, begin_ready, tell_ready, reply_ready}
use Rattle.gz_world.proofs.world.World.happen.Goals as goal

pub open_session-requires : goal.open_session-requires
open_session-requires g c = record { fits = c.requires.fits; small = c.requires.small }

pub begin-requires : goal.begin-requires
begin-requires g c =
    let traces = c.requires.fits.0 in
    let ready = begin_ready g.S.Site.told c.args.self.now traces c.in-Begin.session c.in-Begin.call c.requires.fits.1 c.requires.small (subst (λ e. refusal_of (state_of g.S.Site.told traces c.args.self.now) e ≡ None) c.in-Begin.is (c.requires.happens traces c.requires.fits.1)) in
    record { fits = c.requires.fits; small = c.requires.small; within = rw c.in-Begin.is at c.requires.bounded; opened = ready.0; idle = ready.1 }

pub deliver-requires : goal.deliver-requires
deliver-requires g c = record {
  fits = c.requires.fits;
  small = c.requires.small;
  there = there_by (numbered (map request_of c.args.self.now.net.items) c.in-Deliver.n) (subst (λ e. refusal_of (state_of g.S.Site.told c.requires.fits.0 c.args.self.now) e ≡ None) c.in-Deliver.is (c.requires.happens c.requires.fits.0 c.requires.fits.1));
}

pub hand-requires : goal.hand-requires
hand-requires g c =
    let traces = c.requires.fits.0 in
    let reply = reply_ready g.S.Site.told c.args.self.now traces c.in-Reply.n c.in-Reply.which c.requires.fits.1 (subst (λ e. refusal_of (state_of g.S.Site.told traces c.args.self.now) e ≡ None) c.in-Reply.is (c.requires.happens traces c.requires.fits.1)) in
    let ready = tell_ready g.S.Site.told c.args.self.now traces c.in-Reply.n c.requires.fits.1 reply.0 in
    record { small = c.requires.small; number = ready.0; told = ready.1; reply = λ r there. reply.1 r ready.0.positive there }

pub give_up-requires : goal.give_up-requires
give_up-requires g c =
    let traces = c.requires.fits.0 in
    let ready = tell_ready g.S.Site.told c.args.self.now traces c.in-GiveUp.n c.requires.fits.1 (subst (λ e. refusal_of (state_of g.S.Site.told traces c.args.self.now) e ≡ None) c.in-GiveUp.is (c.requires.happens traces c.requires.fits.1)) in
    record { small = c.requires.small; number = ready.0; told = ready.1 }

pub crash-requires : goal.crash-requires
crash-requires g c = open_by (state_of g.S.Site.told c.requires.fits.0 c.args.self.now) c.in-Crash.session (subst (λ e. refusal_of (state_of g.S.Site.told c.requires.fits.0 c.args.self.now) e ≡ None) c.in-Crash.is (c.requires.happens c.requires.fits.0 c.requires.fits.1))

pub returns-in-OpenSession : goal.returns-in-OpenSession
returns-in-OpenSession g c =
    let told = g.S.Site.told in
    let old = c.args.self.now in
    let new = c.open_session.new.self in
    record {
      acts = if_ok_map c.open_session.result (λ effect. WasOpened old new effect) (λ effect. ActsBy told old c.args.event.now new effect)
          (λ effect h. subst (λ e. ActsBy told old e new effect) (sym c.in-OpenSession.is) (open_acts told old new effect c.requires.small h)) c.open_session.ensures.ok;
      err = on_err_map c.open_session.result (IsSameWorld old new) (StaysBy told old new) (stays_same told old new) c.open_session.ensures.err;
      journal = both_keep c.open_session.result (λ effect. WasOpened old new effect) (IsSameWorld old new) (new.journal ≡ old.journal) c.open_session.ensures.ok c.open_session.ensures.err (λ effect h. h.1.rest.journal) (λ s. s.rest.journal);
      fault = if_ok_any c.open_session.result (λ effect. IsCountedAfter g.S.Site.faults old c.args.event.now new) (λ effect. other_counts g.S.Site.faults old new c.args.event.now events.OpenSession c.in-OpenSession.is refl);
      sites = if_ok_map c.open_session.result (λ effect. WasOpened old new effect) (λ effect. LeavesSites c.args.event.now effect.outcome → new.sites ≡ old.sites) (λ effect h l. h.1.rest.sites) c.open_session.ensures.ok;
      others = other_leaves old new c.args.event.now events.OpenSession c.in-OpenSession.is refl;
      idle = if_ok_map c.open_session.result (λ effect. WasOpened old new effect) (λ effect. LeavesClients old c.args.event.now effect.outcome new) (λ effect h. open_idle old new c.args.event.now effect c.in-OpenSession.is h) c.open_session.ensures.ok;
      kept = on_err_map c.open_session.result (IsSameWorld old new) (LeavesAll old c.args.event.now new) (λ s. record { clients = s.clients; sites = λ none. s.rest.sites }) c.open_session.ensures.err;
    }

pub returns-in-Begin : goal.returns-in-Begin
returns-in-Begin g c =
    let told = g.S.Site.told in
    let old = c.args.self.now in
    let new = c.begin.new.self in
    record {
      acts = if_ok_map c.begin.result (λ effect. Began old new c.in-Begin.session c.in-Begin.call effect) (λ effect. ActsBy told old c.args.event.now new effect)
          (λ effect h. subst (λ e. ActsBy told old e new effect) (sym c.in-Begin.is) (begin_acts told old new c.in-Begin.session c.in-Begin.call effect c.requires.small (λ traces fits. subst (λ e. refusal_of (state_of told traces old) e ≡ None) c.in-Begin.is (c.requires.happens traces fits)) h)) c.begin.ensures.ok;
      err = on_err_map c.begin.result (IsSameWorld old new) (StaysBy told old new) (stays_same told old new) c.begin.ensures.err;
      journal = both_keep c.begin.result (λ effect. Began old new c.in-Begin.session c.in-Begin.call effect) (IsSameWorld old new) (new.journal ≡ old.journal) c.begin.ensures.ok c.begin.ensures.err (λ effect h. h.1.1.1.1.rest.journal) (λ s. s.rest.journal);
      fault = if_ok_any c.begin.result (λ effect. IsCountedAfter g.S.Site.faults old c.args.event.now new) (λ effect. other_counts g.S.Site.faults old new c.args.event.now (events.Begin c.in-Begin.session c.in-Begin.call) c.in-Begin.is refl);
      sites = if_ok_map c.begin.result (λ effect. Began old new c.in-Begin.session c.in-Begin.call effect) (λ effect. LeavesSites c.args.event.now effect.outcome → new.sites ≡ old.sites) (λ effect h l. h.1.1.1.1.rest.sites) c.begin.ensures.ok;
      others = other_leaves old new c.args.event.now (events.Begin c.in-Begin.session c.in-Begin.call) c.in-Begin.is refl;
      idle = if_ok_map c.begin.result (λ effect. Began old new c.in-Begin.session c.in-Begin.call effect) (λ effect. LeavesClients old c.args.event.now effect.outcome new) (λ effect h. begin_idle old new c.args.event.now c.in-Begin.session c.in-Begin.call effect c.in-Begin.is h) c.begin.ensures.ok;
      kept = on_err_map c.begin.result (IsSameWorld old new) (LeavesAll old c.args.event.now new) (λ s. record { clients = s.clients; sites = λ none. s.rest.sites }) c.begin.ensures.err;
    }

pub returns-in-Deliver : goal.returns-in-Deliver
returns-in-Deliver g c =
    let told = g.S.Site.told in
    let old = c.args.self.now in
    let new = c.deliver.new.self in
    record {
      acts = if_ok_map c.deliver.result (λ effect. WasDelivered told old new c.in-Deliver.n effect) (λ effect. ActsBy told old c.args.event.now new effect)
          (λ effect h. subst (λ e. ActsBy told old e new effect) (sym c.in-Deliver.is) (deliver_acts told old new c.in-Deliver.n effect c.requires.small (λ traces fits. subst (λ e. refusal_of (state_of told traces old) e ≡ None) c.in-Deliver.is (c.requires.happens traces fits)) h)) c.deliver.ensures.ok;
      err = on_err_map c.deliver.result (IsSameTold told old new) (StaysBy told old new) (stays_told told old new) c.deliver.ensures.err;
      journal = both_keep c.deliver.result (λ effect. WasDelivered told old new c.in-Deliver.n effect) (IsSameTold told old new) (new.journal ≡ old.journal) c.deliver.ensures.ok c.deliver.ensures.err (λ effect h. h.1.1.rest.journal) (λ s. s.journal);
      fault = if_ok_map c.deliver.result (λ effect. IsCountedFor g.S.Site.faults old c.in-Deliver.n new) (λ effect. IsCountedAfter g.S.Site.faults old c.args.event.now new) (λ effect h. delivery_counts g.S.Site.faults old new c.args.event.now c.in-Deliver.n c.in-Deliver.is h) c.deliver.ensures.fault;
      sites = if_ok_map c.deliver.result (λ effect. WasDelivered told old new c.in-Deliver.n effect) (λ effect. LeavesSites c.args.event.now effect.outcome → new.sites ≡ old.sites)
          (λ effect h l. absurd (delivery_reaches c.args.event.now c.in-Deliver.n effect (Some h.0.name.session) c.in-Deliver.is h.1.1.effect_is l)) c.deliver.ensures.ok;
      others = delivery_leaves old new c.args.event.now c.in-Deliver.n c.in-Deliver.is c.deliver.ensures.others;
      idle = if_ok_map c.deliver.result (λ effect. WasDelivered told old new c.in-Deliver.n effect) (λ effect. LeavesClients old c.args.event.now effect.outcome new) (λ effect h. deliver_idle told old new c.args.event.now c.in-Deliver.n effect c.in-Deliver.is h) c.deliver.ensures.ok;
      kept = on_err_map c.deliver.result (IsSameTold told old new) (LeavesAll old c.args.event.now new) (λ s. record { clients = s.clients; sites = λ none. absurd (is_no_delivery c.args.event.now c.in-Deliver.n c.in-Deliver.is none) }) c.deliver.ensures.err;
    }

pub returns-in-Reply : goal.returns-in-Reply
returns-in-Reply g c =
    let told = g.S.Site.told in
    let old = c.args.self.now in
    let new = c.hand.new.self in
    record {
      acts = if_ok_map c.hand.result (λ effect. WasHanded old new c.in-Reply.n c.in-Reply.which effect) (λ effect. ActsBy told old c.args.event.now new effect)
          (λ effect h. subst (λ e. ActsBy told old e new effect) (sym c.in-Reply.is) (hand_acts told old new c.in-Reply.n c.in-Reply.which effect c.requires.small (λ traces fits. subst (λ e. refusal_of (state_of told traces old) e ≡ None) c.in-Reply.is (c.requires.happens traces fits)) h)) c.hand.ensures.ok;
      err = on_err_map c.hand.result (IsSameWorld old new) (StaysBy told old new) (stays_same told old new) c.hand.ensures.err;
      journal = both_keep c.hand.result (λ effect. WasHanded old new c.in-Reply.n c.in-Reply.which effect) (IsSameWorld old new) (new.journal ≡ old.journal) c.hand.ensures.ok c.hand.ensures.err (λ effect h. h.1.1.1.1.1.1.1.1.rest.journal) (λ s. s.rest.journal);
      fault = if_ok_any c.hand.result (λ effect. IsCountedAfter g.S.Site.faults old c.args.event.now new) (λ effect. other_counts g.S.Site.faults old new c.args.event.now (events.Reply c.in-Reply.n c.in-Reply.which) c.in-Reply.is refl);
      sites = if_ok_map c.hand.result (λ effect. WasHanded old new c.in-Reply.n c.in-Reply.which effect) (λ effect. LeavesSites c.args.event.now effect.outcome → new.sites ≡ old.sites) (λ effect h l. h.1.1.1.1.1.1.1.1.rest.sites) c.hand.ensures.ok;
      others = other_leaves old new c.args.event.now (events.Reply c.in-Reply.n c.in-Reply.which) c.in-Reply.is refl;
      idle = if_ok_map c.hand.result (λ effect. WasHanded old new c.in-Reply.n c.in-Reply.which effect) (λ effect. LeavesClients old c.args.event.now effect.outcome new) (λ effect h. hand_idle old new c.requires.fits.0 c.args.event.now c.in-Reply.n c.in-Reply.which effect c.requires.fits.1 c.in-Reply.is h) c.hand.ensures.ok;
      kept = on_err_map c.hand.result (IsSameWorld old new) (LeavesAll old c.args.event.now new) (λ s. record { clients = s.clients; sites = λ none. s.rest.sites }) c.hand.ensures.err;
    }

pub returns-in-GiveUp : goal.returns-in-GiveUp
returns-in-GiveUp g c =
    let told = g.S.Site.told in
    let old = c.args.self.now in
    let new = c.give_up.new.self in
    record {
      acts = if_ok_map c.give_up.result (λ effect. WasGivenUp old new c.in-GiveUp.n effect) (λ effect. ActsBy told old c.args.event.now new effect)
          (λ effect h. subst (λ e. ActsBy told old e new effect) (sym c.in-GiveUp.is) (give_up_acts told old new c.in-GiveUp.n effect c.requires.small (λ traces fits. subst (λ e. refusal_of (state_of told traces old) e ≡ None) c.in-GiveUp.is (c.requires.happens traces fits)) h)) c.give_up.ensures.ok;
      err = on_err_map c.give_up.result (IsSameWorld old new) (StaysBy told old new) (stays_same told old new) c.give_up.ensures.err;
      journal = both_keep c.give_up.result (λ effect. WasGivenUp old new c.in-GiveUp.n effect) (IsSameWorld old new) (new.journal ≡ old.journal) c.give_up.ensures.ok c.give_up.ensures.err (λ effect h. h.1.1.1.1.1.1.rest.journal) (λ s. s.rest.journal);
      fault = if_ok_any c.give_up.result (λ effect. IsCountedAfter g.S.Site.faults old c.args.event.now new) (λ effect. other_counts g.S.Site.faults old new c.args.event.now (events.GiveUp c.in-GiveUp.n) c.in-GiveUp.is refl);
      sites = if_ok_map c.give_up.result (λ effect. WasGivenUp old new c.in-GiveUp.n effect) (λ effect. LeavesSites c.args.event.now effect.outcome → new.sites ≡ old.sites) (λ effect h l. h.1.1.1.1.1.1.rest.sites) c.give_up.ensures.ok;
      others = other_leaves old new c.args.event.now (events.GiveUp c.in-GiveUp.n) c.in-GiveUp.is refl;
      idle = if_ok_map c.give_up.result (λ effect. WasGivenUp old new c.in-GiveUp.n effect) (λ effect. LeavesClients old c.args.event.now effect.outcome new) (λ effect h. give_up_idle old new c.requires.fits.0 c.args.event.now c.in-GiveUp.n effect c.requires.fits.1 c.in-GiveUp.is h) c.give_up.ensures.ok;
      kept = on_err_map c.give_up.result (IsSameWorld old new) (LeavesAll old c.args.event.now new) (λ s. record { clients = s.clients; sites = λ none. s.rest.sites }) c.give_up.ensures.err;
    }

pub returns-in-Crash : goal.returns-in-Crash
returns-in-Crash g c =
    let told = g.S.Site.told in
    let old = c.args.self.now in
    let new = c.crash.new.self in
    record {
      acts = subst (λ e. ActsBy told old e new c.crash.result) (sym c.in-Crash.is) (crash_acts told old new c.in-Crash.session c.crash.result c.requires.small (λ traces fits. subst (λ e. refusal_of (state_of told traces old) e ≡ None) c.in-Crash.is (c.requires.happens traces fits)) c.crash.ensures);
      err = tt;
      journal = c.crash.ensures.1.rest.journal;
      fault = other_counts g.S.Site.faults old new c.args.event.now (events.Crash c.in-Crash.session) c.in-Crash.is refl;
      sites = λ l. c.crash.ensures.1.rest.sites;
      others = other_leaves old new c.args.event.now (events.Crash c.in-Crash.session) c.in-Crash.is refl;
      idle = crash_idle old new c.args.event.now c.in-Crash.session c.crash.result c.in-Crash.is c.crash.ensures;
      kept = tt;
    }
