use Rattle.std.proofs.Common.{◌≡◌, List, sym, ap, ◌∙◌, ◌++◌, ◌∷◌, []}
use Rattle.header_fields.specs.declared.headers.Header.{Header}
use Rattle.header_fields.proofs.HeadSteps.{blank_step, is_room, named_step, begun_within, not_nil}
use Rattle.header_fields.proofs.head.add_line.Goals as goal

-- one field more, once there is room for it
put : (old roomy new : List Header) (h field : Header) → roomy ≡ old → new ≡ roomy ++ h ∷ [] → h ≡ field → new ≡ old ++ field ∷ []
put old roomy new h field same behind is = behind ∙ ap (λ (hs : List Header). hs ++ h ∷ []) same ∙ ap (λ (x : Header). old ++ x ∷ []) is

pub upto-requires : goal.upto-requires
upto-requires c = is_room c.args.headers.now.items c.args.field.now c.args.rest.now c.args.line.now c.args.after.now c.requires.parts c.requires.open (not_nil c.args.headers.now.items _ c.args.headers.now.ok.0 c.if-is_empty.ensures)

pub returns-then-begins_blank-clause-added : goal.returns-then-begins_blank-clause-added
returns-then-begins_blank-clause-added c =
    let last = c.in_ok-set_last.ensures in
    (blank_step c.args.headers.now.items _ last.0 last.1 c.args.field.now c.args.rest.now c.args.line.now c.args.after.now c.upto.result.now c.requires.parts c.requires.clean c.requires.open (sym c.if-begins_blank.ensures) c.upto.ensures last.2 last.3).0

pub returns-then-begins_blank-clause-open : goal.returns-then-begins_blank-clause-open
returns-then-begins_blank-clause-open c =
    let last = c.in_ok-set_last.ensures in
    (blank_step c.args.headers.now.items _ last.0 last.1 c.args.field.now c.args.rest.now c.args.line.now c.args.after.now c.upto.result.now c.requires.parts c.requires.clean c.requires.open (sym c.if-begins_blank.ensures) c.upto.ensures last.2 last.3).1

pub behind_colon-requires-clause-begun : goal.behind_colon-requires-clause-begun
behind_colon-requires-clause-begun c = begun_within c.args.line.now _ c.in-Some.begun.now (sym c.in-Some.ensures)

pub returns-clause-added : goal.returns-clause-added
returns-clause-added c =
    (named_step c.args.headers.now.items _ c.args.rest.now c.args.line.now c.args.after.now _ c.in-Some.begun.now _ c.requires.parts c.requires.clean (sym c.if-begins_blank.ensures) (sym c.in-Some.ensures)
    (put c.args.headers.now.items c.reserve.new.self.items c.push_reserved.new.self.items c.header.result _ c.in_ok-reserve.ensures.items c.push_reserved.ensures.items c.header.ensures) c.behind_colon.ensures).0

pub returns-clause-open : goal.returns-clause-open
returns-clause-open c =
    (named_step c.args.headers.now.items _ c.args.rest.now c.args.line.now c.args.after.now _ c.in-Some.begun.now _ c.requires.parts c.requires.clean (sym c.if-begins_blank.ensures) (sym c.in-Some.ensures)
    (put c.args.headers.now.items c.reserve.new.self.items c.push_reserved.new.self.items c.header.result _ c.in_ok-reserve.ensures.items c.push_reserved.ensures.items c.header.ensures) c.behind_colon.ensures).1
