use Rattle.std.proofs.Common.{refl}
use Rattle.page_desk.proofs.ShownLaws.{page_shown, json_shown, metrics_shown}
use Rattle.page_desk.proofs.page_desk.PageDeskPageSource.put.Goals as goal

pub returns-in-Page : goal.returns-in-Page
returns-in-Page c = record {
  ok = page_shown c.put_page.result c.args.self.now c.args.path c.in-Some.status _ c.args.out.now.items c.put_page.new.out.items c.in-Some.is c.in-Page.is
      (record { version = refl; started = refl; snapshot = refl; log = c.as_slice.ensures }) c.put_page.ensures;
}

pub returns-in-Json : goal.returns-in-Json
returns-in-Json c = record {
  ok = json_shown c.put_json.result c.args.self.now c.args.path c.in-Some.status _ c.args.out.now.items c.put_json.new.out.items c.in-Some.is c.in-Json.is
      (record { version = refl; started = refl; snapshot = refl; log = c.as_slice.ensures }) c.put_json.ensures;
}

pub returns-in-Metrics : goal.returns-in-Metrics
returns-in-Metrics c = record {
  ok = metrics_shown c.put_metrics.result c.args.self.now c.args.path c.in-Some.status _ c.args.out.now.items c.put_metrics.new.out.items c.in-Some.is c.in-Metrics.is
      (record { version = refl; started = refl; snapshot = refl; log = c.as_slice.ensures }) c.put_metrics.ensures;
}
