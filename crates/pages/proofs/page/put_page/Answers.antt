use Rattle.std.proofs.Common.{◌≡◌, ◌++◌, ℕ, List, append_assoc}
use Rattle.pages.specs.Start.{PutsStart}
use Rattle.pages.proofs.page.put_page.Goals as goal

-- three texts, one after the other
joined : (a t s b x y z : List ℕ) → x ≡ a ++ t → y ≡ x ++ s → z ≡ y ++ b → z ≡ a ++ (t ++ s ++ b)
joined a t s b x y z h i j = rw (j, i, h) (simp append_assoc)

pub returns : goal.returns
returns c =
    let s : PutsStart c.args.overview.started c.put_top.new.out.items c.put_start.new.out.items = c.in_ok-put_start.ensures in
    (s.0, s.1, joined _ _ _ _ _ _ _ c.in_ok-put_top.ensures s.2 c.in_ok-put_body.ensures)
