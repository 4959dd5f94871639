mod ZipLaws
