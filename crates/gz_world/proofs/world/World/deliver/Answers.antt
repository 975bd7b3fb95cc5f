use Rattle.std.proofs.Common.{◌≡◌, ◌-◌, ◌<◌, ◌∙◌, ap, sym, length, subst, refl, arith, Some, map}
use Rattle.std.specs.Prelude.{slice_get, slice_set, option_map}
use Rattle.std.proofs.lemmas.List.{length-map}
use Rattle.std.proofs.lemmas.Option.{slice_get-map}
use Rattle.gz_world.specs.States.{request_of, with_reply}
use Rattle.gz_world.specs.Steps.{quiet}
use Rattle.gz_world.specs.declared.events.Outcome.TheVariants as outcomes
use Rattle.gz_world.proofs.Faults.{fault_kept, others_of}
use Rattle.gz_world.proofs.Members.{place_numbered, positive_by, within_by}
use Rattle.gz_world.proofs.world.World.deliver.Goals as goal

pub make_room_at-requires : goal.make_room_at-requires
make_room_at-requires g c =
    let net = c.args.self.now.net.items in
    subst (λ k. c.args.n - 1 < k) (length-map net request_of) (within_by (map request_of net) c.args.n c.requires.there)

pub item_at-request-requires : goal.item_at-request-requires
item_at-request-requires g c =
    let net = c.args.self.now.net.items in
    subst (λ xs. c.args.n - 1 < length xs) (sym c.as_slice.ensures.value) (subst (λ k. c.args.n - 1 < k) (sym c.make_room_at.ensures.len) (subst (λ k. c.args.n - 1 < k) (length-map net request_of) (within_by (map request_of net) c.args.n c.requires.there)))

pub perform-requires : goal.perform-requires
perform-requires g c =
    let old = c.args.self.now in
    let request = c.item_at-request.result.now in
    let here : slice_get c.make_room_at.new.net.items (c.args.n - 1) ≡ Some request = subst (λ xs. slice_get xs (c.args.n - 1) ≡ Some request) c.as_slice.ensures.value c.item_at-request.ensures in
    let mid : slice_get (map request_of c.make_room_at.new.net.items) (c.args.n - 1) ≡ Some (request_of request) = slice_get-map request_of c.make_room_at.new.net.items (c.args.n - 1) ∙ ap (option_map request_of) here in
    let was : slice_get (map request_of old.net.items) (c.args.n - 1) ≡ Some (request_of request) = subst (λ xs. slice_get xs (c.args.n - 1) ≡ Some (request_of request)) c.make_room_at.ensures.same mid in
    let fits = c.requires.fits.1 in
    let site = (fits.requests (c.args.n - 1) (request_of request) was).site in
    let sites = fits.sites in
    omega (arith, site, sites)

pub keep_at-requires-clause-at : goal.keep_at-requires-clause-at
keep_at-requires-clause-at g c =
    let net = c.args.self.now.net.items in
    subst (λ k. c.args.n - 1 < k) (sym c.make_room_at.ensures.len) (subst (λ k. c.args.n - 1 < k) (length-map net request_of) (within_by (map request_of net) c.args.n c.requires.there))

pub returns-clause-ok : goal.returns-clause-ok
returns-clause-ok g c =
    let request = c.item_at-request.result.now in
    let reply = c.in_ok-reply.reply in
    let here : slice_get c.make_room_at.new.net.items (c.args.n - 1) ≡ Some request = subst (λ xs. slice_get xs (c.args.n - 1) ≡ Some request) c.as_slice.ensures.value c.item_at-request.ensures in
    let mid : slice_get (map request_of c.make_room_at.new.net.items) (c.args.n - 1) ≡ Some (request_of request) = slice_get-map request_of c.make_room_at.new.net.items (c.args.n - 1) ∙ ap (option_map request_of) here in
    let old : slice_get (map request_of c.args.self.now.net.items) (c.args.n - 1) ≡ Some (request_of request) = subst (λ xs. slice_get xs (c.args.n - 1) ≡ Some (request_of request)) c.make_room_at.ensures.same mid in
    let kept = c.keep_at.ensures (request_of request) mid in
    let kept_old = subst (λ xs. map request_of c.keep_at.new.net.items ≡ slice_set xs (c.args.n - 1) (with_reply c.next_tick-tick.result reply (request_of request))) c.make_room_at.ensures.same kept in
    let added = c.saturating_add-self.ensures in
    let weighed = c.reply_weight.ensures in (
      request_of request,
      (
        reply,
        record {
          request = place_numbered (map request_of c.args.self.now.net.items) c.args.n (request_of request) (positive_by (map request_of c.args.self.now.net.items) c.args.n c.requires.there) old;
          len = c.perform.ensures.len;
          kind = c.in_ok-reply.ensures.kind;
          site = c.in_ok-reply.ensures.step;
          others = c.perform.ensures.others;
          casts = c.in_ok-reply.ensures.audit;
          net = subst (λ t. map request_of c.keep_at.new.net.items ≡ slice_set (map request_of c.args.self.now.net.items) (c.args.n - 1) (with_reply t reply (request_of request))) c.next_tick-tick.ensures kept_old;
          held = omega (arith, added, weighed);
          rest = record { cfg = refl; journal = refl; clients = refl; calls = refl };
          effect_is = c.quiet.ensures ∙ ap (λ s. quiet outcomes.Done (Some s)) c.asker-session.ensures;
        },
      ),
    )

pub returns-clause-fault : goal.returns-clause-fault
returns-clause-fault g c =
    let request = c.item_at-request.result.now in
    let reply = c.in_ok-reply.reply in
    let here : slice_get c.make_room_at.new.net.items (c.args.n - 1) ≡ Some request = subst (λ xs. slice_get xs (c.args.n - 1) ≡ Some request) c.as_slice.ensures.value c.item_at-request.ensures in
    let mid : slice_get (map request_of c.make_room_at.new.net.items) (c.args.n - 1) ≡ Some (request_of request) = slice_get-map request_of c.make_room_at.new.net.items (c.args.n - 1) ∙ ap (option_map request_of) here in
    let old : slice_get (map request_of c.args.self.now.net.items) (c.args.n - 1) ≡ Some (request_of request) = subst (λ xs. slice_get xs (c.args.n - 1) ≡ Some (request_of request)) c.make_room_at.ensures.same mid in
    let kept = subst (λ xs. map request_of c.keep_at.new.net.items ≡ slice_set xs (c.args.n - 1) (with_reply c.next_tick-tick.result reply (request_of request))) c.make_room_at.ensures.same (c.keep_at.ensures (request_of request) mid) in
    fault_kept g.S.Site.faults c.args.self.now (record c.args.self.now { net = c.keep_at.new.net; sites = c.perform.new.sites }) c.args.n (request_of request) c.next_tick-tick.result reply
    (positive_by (map request_of c.args.self.now.net.items) c.args.n c.requires.there) old kept c.in_ok-reply.ensures.fault

pub returns-clause-others : goal.returns-clause-others
returns-clause-others g c =
    let request = c.item_at-request.result.now in
    let here : slice_get c.make_room_at.new.net.items (c.args.n - 1) ≡ Some request = subst (λ xs. slice_get xs (c.args.n - 1) ≡ Some request) c.as_slice.ensures.value c.item_at-request.ensures in
    let mid : slice_get (map request_of c.make_room_at.new.net.items) (c.args.n - 1) ≡ Some (request_of request) = slice_get-map request_of c.make_room_at.new.net.items (c.args.n - 1) ∙ ap (option_map request_of) here in
    let old : slice_get (map request_of c.args.self.now.net.items) (c.args.n - 1) ≡ Some (request_of request) = subst (λ xs. slice_get xs (c.args.n - 1) ≡ Some (request_of request)) c.make_room_at.ensures.same mid in
    others_of c.args.self.now (record c.args.self.now { net = c.keep_at.new.net; sites = c.perform.new.sites }) c.args.n (request_of request)
    (place_numbered (map request_of c.args.self.now.net.items) c.args.n (request_of request) (positive_by (map request_of c.args.self.now.net.items) c.args.n c.requires.there) old) c.perform.ensures.others
