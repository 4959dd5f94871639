mod SceneLaws
mod FirstFound
mod CopyLaws
mod PassedLaws
mod ContactLaws
mod StepLaws
