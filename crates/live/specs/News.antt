-- News that an operator has for the agent.
use Rattle.std.specs.Prelude.{List, [], ◌∷◌, ◌++◌, map, Option, Some, None}
use Rattle.events.specs.declared.event.What.{What}
use Rattle.events.specs.declared.event.What.TheVariants as whats
use Rattle.live.specs.declared.news.News.{News}
use Rattle.live.specs.declared.news.News.TheVariants.{Silent, Users}
use Rattle.live.specs.declared.news_log.NewsLog.{NewsLog}

-- the event that it becomes
abbrev pub what_of : News → What
what_of (Silent number) = whats.Silent number
what_of (Users users) = whats.Users users

-- the news handed in so far, after a round that had this news, if it had any
abbrev pub with_news : List News → Option News → List News
with_news handed None = handed
with_news handed (Some news) = handed ++ news ∷ []

-- those that were noted, in order
abbrev pub logged : NewsLog → List News
logged log = map (λ s. s.value) log.entries.items
